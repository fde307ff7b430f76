-- The words so far, extended, are the schedule.
use Rattle.std.proofs.Common.{◌+◌, replicate, sym, ap, ◌∙◌, arith}
use Rattle.std.proofs.lemmas.List.{length-append, length-set, take_at}
use Rattle.sha256.specs.Rounds.{extended, schedule}
use Rattle.sha256.proofs.Schedules.{extended_more, extended_all}
use Rattle.sha256.proofs.block.schedule.Goals as goal

pub loop-t-init : goal.loop-t-init
unfolding schedule
loop-t-init c =
    let front = c.copy_from_slice.ensures in (
      length-append c.copy_from_slice.new.self (replicate 48 0) ∙ ap (λ n. n + 48) front.len,
      ap (extended 48) (take_at _ _ 16 front.len ∙ front.after ∙ c.message_words.ensures),
    )

pub loop-t-preserved : goal.loop-t-preserved
loop-t-preserved c =
    let long = c.loop-t.invariant.0 in (
      simp length-set long,
      sym (extended_more c.loop-t.words c.loop-t.t c.next_word.result (omega arith) (omega arith) long c.next_word.ensures) ∙ c.loop-t.invariant.1,
    )

pub returns : goal.returns
returns c = sym (extended_all c.loop-t.words c.loop-t.t (omega arith) c.loop-t.invariant.0) ∙ c.loop-t.invariant.1
