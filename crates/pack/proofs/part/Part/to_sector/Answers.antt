-- The pieces stand one behind the other.
use Rattle.std.proofs.Common.{◌≡◌, length, refl, ap, ◌∙◌, rules}
use Rattle.pack.specs.Part.{code_of}
use Rattle.pack.specs.Sector.{four_bytes, zeros}
use Rattle.pack.proofs.Makes.{length_laid, made}
use Rattle.pack.proofs.part.Part.to_sector.Goals as goal

pub slice_bounds-weigh-end : goal.slice_bounds-weigh-end
unfolding zeros
slice_bounds-weigh-end c =
    let s = c.args.self.now in
    let long : length s.name.bytes ≡ 32 = search rules in
    let wide = length_laid (length s.payload.now) c.copy_from_slice.new.self c.copy_from_slice-2.new.self c.copy_from_slice-3.new.self (zeros 512) c.copy_from_slice.ensures.len (ap length c.copy_from_slice-2.ensures.after ∙ long) (ap length c.copy_from_slice-3.ensures.after) s.short refl in
    search rules

pub slice_bounds-sector-end-4 : goal.slice_bounds-sector-end-4
unfolding zeros
slice_bounds-sector-end-4 c =
    let s = c.args.self.now in
    let long : length s.name.bytes ≡ 32 = search rules in
    let wide = length_laid (length s.payload.now) c.copy_from_slice.new.self c.copy_from_slice-2.new.self c.copy_from_slice-3.new.self (zeros 512) c.copy_from_slice.ensures.len (ap length c.copy_from_slice-2.ensures.after ∙ long) (ap length c.copy_from_slice-3.ensures.after) s.short refl in
    search rules

pub returns-clause-value : goal.returns-clause-value
unfolding zeros
returns-clause-value c =
    let s = c.args.self.now in
    let long : length s.name.bytes ≡ 32 = search rules in
    made
    (code_of s.kind)
    s.number
    s.name.bytes
    s.payload.now
    (zeros 512)
    c.copy_from_slice.new.self
    c.copy_from_slice-2.new.self
    c.copy_from_slice-3.new.self
    c.copy_from_slice-4.new.self
    long
    s.short
    refl
    (c.copy_from_slice.ensures.after ∙ c.head.ensures)
    c.copy_from_slice-2.ensures.after
    c.copy_from_slice-3.ensures.after
    (c.copy_from_slice-4.ensures.after ∙ c.to_be_bytes-sum.ensures ∙ ap four_bytes c.weigh.ensures)
