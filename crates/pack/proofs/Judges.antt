-- The verdict on memory is right. Assumes nothing.
use Rattle.std.proofs.Common.{◌≡◌, ℕ, zero, suc, ◌/◌, ◌<◌, Bool, true, false, cond, List, length, drop, refl, arith}
use Rattle.std.specs.Simd.{first_chunks}
use Rattle.std.specs.List.{AllByRecursion}
use Rattle.std.proofs.ByRecursion.{All-drop, All-take}
use Rattle.pack.specs.Lawful.{whole_sectors}
use Rattle.pack.specs.Memory.{Sectored, sectored}
use Rattle.pack.specs.Pack.{sectors_in}
use Rattle.pack.specs.Reader.{Reading, good, bad, read_sectors}
use Rattle.pack.specs.Test.{Judged, refused, read_verdict, verdict}
use Rattle.pack.proofs.Bads.{Bytes, first_bad, read_good}

bytes_chunks : (k : ℕ) (m : List ℕ) → Bytes m → AllByRecursion Bytes (first_chunks 512 k m)
bytes_chunks zero m small = tt
bytes_chunks (suc k) m small = (All-take (λ b. b < 256) 512 m small, bytes_chunks k (drop 512 m) (All-drop (λ b. b < 256) 512 m small))

is_sectored : (m : List ℕ) → sectored m ≡ true → Sectored m
is_sectored m e = grind arith

tells_sectored : (m : List ℕ) → Sectored m → sectored m ≡ true
tells_sectored m h = grind arith

pub judge : (m : List ℕ) → Bytes m → Judged m (verdict m)
judge m small = by_size (sectored m) refl where
  ss : List (List ℕ)
  ss = sectors_in m

  bytes : AllByRecursion Bytes ss
  bytes = bytes_chunks (length m / 512) m small

  by_reading : Sectored m → (r : Reading) → read_sectors ss ≡ r → Judged m (read_verdict r)
  by_reading h (good pairs unused) e =
      let g = read_good ss pairs unused (whole_sectors m) e in
      (h, record { pairs = pairs; unused = unused; sound = g.0; is = g.1; bytes = bytes })
  by_reading h (bad s) e = (refl, (h, first_bad ss s (whole_sectors m) bytes e))

  by_size : (b : Bool) → sectored m ≡ b → Judged m (cond b (read_verdict (read_sectors ss)) (refused 14))
  by_size true e = by_reading (is_sectored m e) (read_sectors ss) refl
  by_size false e = (refl, λ h. let t = tells_sectored m h in absurd (grind arith))
