-- The scan tells the verdict.
use Rattle.std.proofs.Common.{◌≡◌, ◌<◌, sym, subst, rules}
use Rattle.std.proofs.ByRecursion.{All-from_get_or}
use Rattle.pack.specs.Test.{Judged, accepted, memory_told, verdict}
use Rattle.pack.proofs.Judges.{judge}
use Rattle.pack.proofs.Readings.{read_pack}
use Rattle.pack.proofs.Bads.{Bytes}
use Rattle.pack.proofs.pack.Pack.test_memory.Goals as goal

pub returns-in_err-used_sectors-clause-judged : goal.returns-in_err-used_sectors-clause-judged
returns-in_err-used_sectors-clause-judged c =
    let m = c.args.memory.now in
    let small : Bytes m = All-from_get_or (λ b. b < 256) m 0 (λ i within. (c.type_inv.memory i).fits) in
    let is : memory_told c.from_residual.result ≡ verdict m = search rules in
    subst (Judged m) (sym is) (judge m small)

pub returns-in_err-used_sectors-clause-read_back : goal.returns-in_err-used_sectors-clause-read_back
returns-in_err-used_sectors-clause-read_back c = read_pack

pub returns-clause-judged : goal.returns-clause-judged
returns-clause-judged c =
    let m = c.args.memory.now in
    let small : Bytes m = All-from_get_or (λ b. b < 256) m 0 (λ i within. (c.type_inv.memory i).fits) in
    let is : accepted ≡ verdict m = search rules in
    subst (Judged m) (sym is) (judge m small)

pub returns-clause-read_back : goal.returns-clause-read_back
returns-clause-read_back c = read_pack
