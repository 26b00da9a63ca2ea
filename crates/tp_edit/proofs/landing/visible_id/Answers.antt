use Rattle.std.proofs.Common.{◌≡◌, ℕ, ◌<◌, ◌∙◌, List, Option, Some, None, inl, inr, sym, ap, arith, length}
use Rattle.std.specs.Prelude.{slice_get}
use Rattle.std.specs.Option.{option_map}
use Rattle.std.proofs.lemmas.List.{length-map}
use Rattle.std.proofs.lemmas.Option.{slice_get-map, slice_get_cases}
use Rattle.tp_opid.specs.declared.op_id.OpId.{OpId}
use Rattle.tp_opid.specs.Insert.{Insert}
use Rattle.tp_rga.specs.Shown.{visible_of}
use Rattle.tp_edit.specs.EditRecords.{ids_of}
use Rattle.tp_edit.proofs.landing.visible_id.Goals as goal

-- every position of the text has an element
no_place : (L : List Insert) (k : ℕ) (r : Option OpId) → k < length L → r ≡ None → r ≡ option_map (λ (e : Insert). e.id) (slice_get L k) → ⊥
no_place L k r lt none h = elim (slice_get_cases L k).1 [
  | inl found ↦ let e : None ≡ option_map (λ (e : Insert). e.id) (Some found.0) = sym none ∙ h ∙ ap (option_map (λ (e : Insert). e.id)) found.2 in cc
  | inr past ↦ absurd (omega arith)
]

-- the identifier at a position
found_at : (L : List Insert) (k : ℕ) (r : Option OpId) (x : OpId) → r ≡ option_map (λ (e : Insert). e.id) (slice_get L k) → r ≡ Some x → slice_get (ids_of L) k ≡ Some x
found_at L k r x f g = slice_get-map (λ (e : Insert). e.id) L k ∙ sym f ∙ g

pub overflow_cast-position : goal.overflow_cast-position
overflow_cast-position g c =
    let L = visible_of (g.S.Sequence.removals c.args.sequence.now) (g.S.Sequence.placed c.args.sequence.now) in
    let size = length-map L (λ (e : Insert). e.id) in
    omega (arith, c.requires.there, size, c.requires.counted)

pub unreachable-requires : goal.unreachable-requires
unreachable-requires g c =
    let L = visible_of (g.S.Sequence.removals c.args.sequence.now) (g.S.Sequence.placed c.args.sequence.now) in
    let size = length-map L (λ (e : Insert). e.id) in
    no_place L c.args.position c.id_at.result (omega (arith, c.requires.there, size)) c.in-None.is c.id_at.ensures

pub returns : goal.returns
returns g c =
    let L = visible_of (g.S.Sequence.removals c.args.sequence.now) (g.S.Sequence.placed c.args.sequence.now) in
    found_at L c.args.position c.id_at.result _ c.id_at.ensures c.in-Some.is
