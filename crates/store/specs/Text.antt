-- How answers are printed.
--
--   refusal_text    a refusal of any kind, by its number
--   fault_text      a refusal of a store
--   compared_text   a word for each
--
-- Assumes nothing.
use Rattle.std.specs.Prelude.{ℕ, List, ◌++◌, codes}
use Rattle.std.specs.Fmt.{decimal}
use Rattle.store.specs.Answer.{number}
use Rattle.store.specs.declared.compared.Compared.{Compared}
use Rattle.store.specs.declared.compared.Compared.TheVariants.{Absent, Same, Other}
use Rattle.store.specs.declared.fault.Fault.{Fault}

-- in decimal digits
abbrev pub refusal_text : ℕ → List ℕ
refusal_text n = codes "refused " ++ decimal n

abbrev pub fault_text : Fault → List ℕ
fault_text fault = refusal_text (number fault)

abbrev pub compared_text : Compared → List ℕ
compared_text Absent = codes "absent"
compared_text Same = codes "same"
compared_text Other = codes "other"
