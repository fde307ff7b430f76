use Rattle.std.proofs.Common.{◌≡◌, ◌++◌, OnOk, string_bytes, codes, decimal, ap, ◌∙◌}
use Rattle.std.proofs.lemmas.Result.{on_ok_weaker}
use Rattle.digest.specs.Hex.{hex}
use Rattle.timetable.specs.Lines.{terminated}
use Rattle.timetable.proofs.Sessions.{answer-root, answer_bad}
use Rattle.timetable.proofs.session.write_answer.Goals as goal

pub returns-in-Ok-Root : goal.returns-in-Ok-Root
returns-in-Ok-Root g c =
    let out = string_bytes c.args.out.now in
    let wrote : OnOk c.writeln.result (string_bytes c.writeln.new.self ≡ out ++ terminated (hex c.digest-root.result.bytes)) = c.writeln.ensures.bytes in
    on_ok_weaker c.writeln.result (λ is. is ∙ ap (λ xs. out ++ xs) (answer-root _ c.args.number _ _ _ c.in-Ok-Root.ensures (ap hex c.digest-root.ensures))) wrote

pub returns-in-Err : goal.returns-in-Err
returns-in-Err g c =
    let out = string_bytes c.args.out.now in
    let wrote : OnOk c.writeln-in-Err.result (string_bytes c.writeln-in-Err.new.self ≡ out ++ terminated (codes "bad " ++ decimal c.args.number)) = c.writeln-in-Err.ensures.bytes in
    on_ok_weaker c.writeln-in-Err.result (λ is. is ∙ ap (λ xs. out ++ xs) (answer_bad _ c.args.number _ c.in-Err.ensures)) wrote
