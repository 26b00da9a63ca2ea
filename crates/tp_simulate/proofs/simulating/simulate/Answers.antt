use Rattle.std.proofs.Common.{◌≡◌, inl, inr, subst}
use Rattle.std.proofs.KnownBytes.{Keeps-refl}
use Rattle.tp_simulate.specs.declared.error.SimError.TheVariants as refusal
use Rattle.tp_simulate.specs.SimError.{IsOutsideError}
use Rattle.tp_simulate.proofs.ScriptLaws.{finished_part, finished_prints, going_begins, going_ended, going_line_part, going_more, going_part, going_stops, no_line}
use Rattle.tp_simulate.proofs.simulating.simulate.Goals as goal

pub loop-number-init : goal.loop-number-init
loop-number-init g c = going_begins _ c.array_len-len.ensures.bytes _ _ _ c.new.ensures c.new-2.ensures.items

pub loop-number-preserved : goal.loop-number-preserved
loop-number-preserved g c =
    let m = c.in-Ok-true.ensures.more c.in-Ok-true.field-0-test in
    going_more c.loop-number.number _ _ _ _ _ _ _ m.0 m.1 c.loop-number.invariant m.2 m.3

pub returns-in-Ok-false-clause-prints : goal.returns-in-Ok-false-clause-prints
returns-in-Ok-false-clause-prints g c =
    let ended = c.in-Ok-false.ensures.ended c.in-Ok-false.field-0-test in
    let going = going_ended c.loop-number.number c.loop-number.stage c.step.new.stage _ _ _ c.loop-number.invariant ended.0 ended.1 in
    finished_prints c.finish.result c.loop-number.number _ _ _ _ _ going c.finish.ensures.whole

pub returns-in-Ok-false-clause-part : goal.returns-in-Ok-false-clause-part
returns-in-Ok-false-clause-part g c =
    let ended = c.in-Ok-false.ensures.ended c.in-Ok-false.field-0-test in
    let going = going_ended c.loop-number.number c.loop-number.stage c.step.new.stage _ _ _ c.loop-number.invariant ended.0 ended.1 in
    finished_part c.finish.result c.loop-number.number _ _ _ _ _ going c.finish.ensures.whole c.finish.ensures.part

pub returns-in-Err-clause-part : goal.returns-in-Err-clause-part
returns-in-Err-clause-part g c = elim c.in-Err.ensures.err [
  | inl kept ↦ going_part c.loop-number.number _ _ _ _ _ c.loop-number.invariant kept.1
  | inr p ↦ going_line_part c.loop-number.number _ p.1.2 _ p.1.3 _ _ _ p.1.0 p.1.1 c.loop-number.invariant p.1.4 p.1.5
]

pub returns-in-Err-clause-line : goal.returns-in-Err-clause-line
returns-in-Err-clause-line g c k is =
    let same : c.in-Err.error ≡ refusal.Line k = cc in
    elim c.in-Err.ensures.err [
      | inl kept ↦ elim kept.0 [
        | inl outside ↦ absurd (no_line k (subst IsOutsideError same outside))
        | inr at ↦ going_stops c.loop-number.number k _ _ _ _ _ c.loop-number.invariant kept.1 cc
      ]
      | inr p ↦ absurd (no_line k (subst IsOutsideError same p.0))
    ]

pub returns-clause-part : goal.returns-clause-part
returns-clause-part g c = going_part c.loop-number.number _ _ _ _ _ c.loop-number.invariant (Keeps-refl _)
