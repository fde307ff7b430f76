use Rattle.std.proofs.Common.{◌-◌, ◌≤◌, length}
use Rattle.pack.proofs.Scans.{Between, Inside}
use Rattle.pack.proofs.scan.scan.Given as goal

abbrev pub invariant-parts : goal.invariant-parts
invariant-parts l = (l.first ≤ l.at) × Inside l.sectors l.at l.name.bytes l.part

abbrev pub decreases-parts : goal.decreases-parts
decreases-parts l = length l.sectors - l.at

abbrev pub invariant-scan : goal.invariant-scan
invariant-scan l = Between l.sectors l.at

abbrev pub decreases-scan : goal.decreases-scan
decreases-scan l = length l.sectors - l.at
