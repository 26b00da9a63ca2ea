-- What was printed so far, as a script goes on and where it stops.
use Rattle.std.proofs.Common.{◌≡◌, ◌⊎◌, inl, inr, ℕ, ◌+◌, List, [], ◌∷◌, ◌++◌, length, Option, Result, Ok, Err, refl, sym, ap, ◌∙◌, subst, append_assoc, append-nil, length-append, arith}
use Rattle.std.specs.Prelude.{IfErr, OnOk}
use Rattle.std.specs.Io.KnownBytes.{Appends, Keeps}
use Rattle.std.proofs.KnownBytes.{Appends-kept, Appends-nil, Appends-trans}
use Rattle.tp_opid.specs.declared.doc_id.DocId.{DocId}
use Rattle.tp_opid.specs.declared.op_id.OpId.{OpId}
use Rattle.tp_recovery.specs.Layout.{IsDocId}
use Rattle.tp_headline.specs.Reply.{EventReply}
use Rattle.tp_headline.specs.World.{World, beginning}
use Rattle.tp_textpeer.specs.Output.{AppendsPart}
use Rattle.tp_world.specs.Order.{IsOneList, pairs_of}
use Rattle.tp_simulate.specs.declared.asked.Asked.{Asked}
use Rattle.tp_simulate.specs.declared.mark.Mark.{Mark}
use Rattle.tp_simulate.specs.declared.playing.Stage.{Stage}
use Rattle.tp_simulate.specs.declared.error.SimError.{SimError}
use Rattle.tp_simulate.specs.declared.error.SimError.TheVariants as refusal
use Rattle.tp_simulate.specs.SimError.{IsOutsideError}
use Rattle.tp_simulate.specs.Playing.{Carries, PlaysTo, Plays}
use Rattle.tp_simulate.specs.Script.{IsScriptOutput, Prints, PrintsPart, StopsAtLine}
use Rattle.tp_simulate.specs.Telling.{order_line, line_of_reply}
use Rattle.tp_simulate.proofs.PlayLaws.{played_of, plays_push}

-- ---- what a writer holds

part_of_all : (old new : Option (List ℕ)) (bs : List ℕ) → Appends old new bs → AppendsPart old new bs
part_of_all old new bs h = record { part = bs; rest = []; begins = sym (append-nil bs); grown = h }

part_after : (old mid new : Option (List ℕ)) (xs ys : List ℕ) → Appends old mid xs → AppendsPart mid new ys → AppendsPart old new (xs ++ ys)
part_after old mid new xs ys h p = record {
  part = xs ++ p.part;
  rest = p.rest;
  begins = ap (λ (l : List ℕ). xs ++ l) p.begins ∙ sym (append_assoc xs p.part p.rest);
  grown = Appends-trans old mid new xs p.part h p.grown;
}

part_of_more : (old new : Option (List ℕ)) (xs ys : List ℕ) → AppendsPart old new xs → AppendsPart old new (xs ++ ys)
part_of_more old new xs ys p = record {
  part = p.part;
  rest = p.rest ++ ys;
  begins = ap (λ (l : List ℕ). l ++ ys) p.begins ∙ append_assoc p.part p.rest ys;
  grown = p.grown;
}

-- ---- lines that were played

-- there is the one list, so what lines print is a beginning of what a script prints
played_part : (old new : Option (List ℕ)) (asked : List Asked) (out : List ℕ) (w : World) → PlaysTo asked out w → AppendsPart old new out → PrintsPart old new
played_part old new asked out w played part =
    let pairs = pairs_of played.headline.elements in
    let list : IsOneList w.made pairs = record { elements = played.headline.elements; order = played.headline.order; shown = refl } in
    let printed : IsScriptOutput (out ++ order_line pairs) = record { asked = asked; printed = out; world = w; pairs = pairs; played = played; one_list = list; spelled = refl } in
    (out ++ order_line pairs, printed, part_of_more old new out (order_line pairs) part)

-- The lines before the one with this number were carried out: the world and the marks are these, and what the writer holds
-- grew by what is printed of them.
pub record Going (number : ℕ) (w : World) (marks : List Mark) (before after : Option (List ℕ)) : Type 0 where
  pub id : DocId
  pub is_id : IsDocId id
  pub asked : List Asked
  pub printed : List ℕ
  pub plays : Plays (beginning id) [] asked printed w marks
  pub count : length asked + 1 ≡ number
  pub written : Appends before after printed

-- no line yet
pub going_begins : (id : DocId) → IsDocId id → (w : World) (M : List Mark) (held : Option (List ℕ)) → w ≡ beginning id → M ≡ [] → Going 1 w M held held
going_begins id is w M held fresh none = record {
  id = id;
  is_id = is;
  asked = [];
  printed = [];
  plays = record { lines = []; asks = refl; tells = refl; carried = ap (λ (x : World). (x, M)) fresh ∙ ap (λ (N : List Mark). (beginning id, N)) none };
  count = omega arith;
  written = Appends-nil held;
}

pub going_more : (n : ℕ) (w w' : World) (M M' : List Mark) (before mid after : Option (List ℕ)) (a : Asked) (r : EventReply) → Going n w M before mid → Carries w M a r w' M'
    → Appends mid after (line_of_reply a r) → Going (n + 1) w' M' before after
going_more n w w' M M' before mid after a r g carries more = record {
  id = g.id;
  is_id = g.is_id;
  asked = g.asked ++ a ∷ [];
  printed = g.printed ++ line_of_reply a r;
  plays = plays_push g.asked (beginning g.id) w w' [] M M' g.printed a r g.plays carries;
  count = omega (arith, length-append g.asked (a ∷ []), g.count);
  written = Appends-trans before mid after g.printed (line_of_reply a r) g.written more;
}

-- how far a script came stays, where there was no line
pub going_ended : (n : ℕ) (s s' : Stage) (before mid after : Option (List ℕ)) → Going n s.world s.marks.items before mid → s' ≡ s → Keeps mid after
    → Going n s'.world s'.marks.items before after
going_ended n s s' before mid after g same kept =
    let here : Going n s.world s.marks.items before after = record {
      id = g.id;
      is_id = g.is_id;
      asked = g.asked;
      printed = g.printed;
      plays = g.plays;
      count = g.count;
      written = Appends-kept before mid after g.printed g.written kept;
    } in
    subst (λ (x : Stage). Going n x.world x.marks.items before after) (sym same) here

played : (n : ℕ) (w : World) (M : List Mark) (before after : Option (List ℕ)) → (g : Going n w M before after) → PlaysTo g.asked g.printed w
played n w M before after g = played_of g.id g.is_id g.asked g.printed w M g.plays

-- the lines so far are all that is printed
pub going_part : (n : ℕ) (w : World) (M : List Mark) (before mid after : Option (List ℕ)) → Going n w M before mid → Keeps mid after → PrintsPart before after
going_part n w M before mid after g kept =
    played_part before after g.asked g.printed w (played n w M before mid g) (part_of_all before after g.printed (Appends-kept before mid after g.printed g.written kept))

pub going_stops : (n k : ℕ) (w : World) (M : List Mark) (before mid after : Option (List ℕ)) → Going n w M before mid → Keeps mid after → n ≡ k → StopsAtLine k before after
going_stops n k w M before mid after g kept same = record {
  asked = g.asked;
  printed = g.printed;
  world = w;
  played = played n w M before mid g;
  count = g.count ∙ same;
  written = Appends-kept before mid after g.printed g.written kept;
}

-- and a beginning of what is printed of the next line
pub going_line_part : (n : ℕ) (w w' : World) (M M' : List Mark) (before mid after : Option (List ℕ)) (a : Asked) (r : EventReply) → Going n w M before mid → Carries w M a r w' M'
    → AppendsPart mid after (line_of_reply a r) → PrintsPart before after
going_line_part n w w' M M' before mid after a r g carries part =
    let plays = plays_push g.asked (beginning g.id) w w' [] M M' g.printed a r g.plays carries in
    played_part before after (g.asked ++ a ∷ []) (g.printed ++ line_of_reply a r) w' (played_of g.id g.is_id (g.asked ++ a ∷ []) (g.printed ++ line_of_reply a r) w' M' plays)
    (part_after before mid after g.printed (line_of_reply a r) g.written part)

-- all lines, and the one list
printed_by : (n : ℕ) (w : World) (M : List Mark) (before after : Option (List ℕ)) (pairs : List (OpId × ℕ)) → (g : Going n w M before after) → IsOneList w.made pairs → IsScriptOutput (g.printed ++ order_line pairs)
printed_by n w M before after pairs g list =
    record { asked = g.asked; printed = g.printed; world = w; pairs = pairs; played = played n w M before after g; one_list = list; spelled = refl }

pub going_prints : (n : ℕ) (w : World) (M : List Mark) (before mid after : Option (List ℕ)) (pairs : List (OpId × ℕ)) → Going n w M before mid → IsOneList w.made pairs
    → Appends mid after (order_line pairs) → Prints before after
going_prints n w M before mid after pairs g list more =
    (g.printed ++ order_line pairs, printed_by n w M before mid pairs g list, Appends-trans before mid after g.printed (order_line pairs) g.written more)

pub going_order_part : (n : ℕ) (w : World) (M : List Mark) (before mid after : Option (List ℕ)) (pairs : List (OpId × ℕ)) → Going n w M before mid → IsOneList w.made pairs
    → AppendsPart mid after (order_line pairs) → PrintsPart before after
going_order_part n w M before mid after pairs g list part =
    (g.printed ++ order_line pairs, printed_by n w M before mid pairs g list, part_after before mid after g.printed (order_line pairs) g.written part)

-- what is printed is a beginning of itself
prints_part : (before after : Option (List ℕ)) → Prints before after → PrintsPart before after
prints_part before after h = (h.0, h.1, part_of_all before after h.0 h.2)

-- the line of the one list was written after the lines
abbrev pub Finished : World → Option (List ℕ) → Option (List ℕ) → Type 0
Finished w mid after = (pairs : List (OpId × ℕ)) × IsOneList w.made pairs × Appends mid after (order_line pairs)

-- a beginning of it was, or nothing
abbrev pub FinishedPart : World → Option (List ℕ) → Option (List ℕ) → SimError → Type 0
FinishedPart w mid after e =
    IsOutsideError e × (Keeps mid after ⊎ ((pairs : List (OpId × ℕ)) × IsOneList w.made pairs × AppendsPart mid after (order_line pairs)))

pub finished_prints : (r : Result (Unit {0}) SimError) (n : ℕ) (w : World) (M : List Mark) (before mid after : Option (List ℕ)) → Going n w M before mid → OnOk r (Finished w mid after)
    → OnOk r (Prints before after)
finished_prints (Ok x) n w M before mid after g h = going_prints n w M before mid after h.0 g h.1 h.2
finished_prints (Err e) n w M before mid after g h = tt

pub finished_part : (r : Result (Unit {0}) SimError) (n : ℕ) (w : World) (M : List Mark) (before mid after : Option (List ℕ)) → Going n w M before mid → OnOk r (Finished w mid after)
    → IfErr r (FinishedPart w mid after) → PrintsPart before after
finished_part (Ok x) n w M before mid after g h part = prints_part before after (going_prints n w M before mid after h.0 g h.1 h.2)
finished_part (Err e) n w M before mid after g h part = elim part.1 [
  | inl kept ↦ going_part n w M before mid after g kept
  | inr p ↦ going_order_part n w M before mid after p.0 g p.1 p.2
]

-- ---- refusals

-- no refusal that says nothing of the script names a line
pub no_line : (k : ℕ) → IsOutsideError (refusal.Line k) → ⊥
no_line k (inl e) = cc
no_line k (inr e) = cc
