-- What a splice that was done left, as far as later splices of the edit need it.
use Rattle.std.specs.Prelude.{ℕ, ◌+◌, ◌≤◌, ◌^◌, ◌≡◌, List, [], ◌∷◌, ◌++◌, length, take, drop}
use Rattle.tp_opid.specs.declared.actor.Actor.{Actor}
use Rattle.tp_opid.specs.declared.op_id.OpId.{OpId}
use Rattle.tp_change.specs.OpIds.{ids_from}
use Rattle.tp_edit.specs.declared.landing.Edge.{Edge}
use Rattle.tp_edit.specs.declared.landing.Landing.{Landing}
use Rattle.tp_edit.specs.declared.landing.Landings.{Landings}
use Rattle.tp_edit.specs.declared.splice.Splice.{Splice}
use Rattle.tp_edit.specs.Splices.{inserted_chars, count_of_splice, splice_at}

-- the splice as a landing, where its first counter is n
abbrev pub landing_of : ℕ → Splice → Landing
landing_of n s = record { at = s.at; del = s.del; len = length (inserted_chars s); first = n + s.del }

-- the splices of an edit whose first counter is n
abbrev pub landings_of : ℕ → List Splice → List Landing
landings_of n [] = []
landings_of n (s ∷ ss) = landing_of n s ∷ landings_of (n + count_of_splice s) ss

-- the visible elements after a landing
abbrev pub ids_landed : Actor → List OpId → Landing → List OpId
ids_landed actor V l = splice_at V l.at l.del (ids_from actor l.first l.len)

-- the visible elements after landings
abbrev pub ids_through : Actor → List OpId → List Landing → List OpId
ids_through actor V [] = V
ids_through actor V (l ∷ ls) = ids_through actor (ids_landed actor V l) ls

-- Each landing is within the elements that the ones before it left, and its counters are in their range.
abbrev pub AllLandingsFit : Actor → List OpId → List Landing → Type 0
AllLandingsFit actor V [] = Unit {0}
AllLandingsFit actor V (l ∷ ls) = (l.at + l.del ≤ length V) × (l.first + l.len ≤ 2 ^ 64) × AllLandingsFit actor (ids_landed actor V l) ls

-- What the landings left alone of the elements V: the first `head` are where they were, and those from `end` on were from
-- `base` on.
pub record IsEdge (actor : Actor) (V : List OpId) (ls : List Landing) (e : Edge) : Type 0 where
  pub head : take e.head (ids_through actor V ls) ≡ take e.head V
  pub within : e.end ≤ length (ids_through actor V ls)
  pub before : e.base ≤ length V
  pub tail : drop e.end (ids_through actor V ls) ≡ drop e.base V

-- Whatever landings left the edge alone, with the next one they leave that one alone.
abbrev pub LeavesEdge : Edge → Landing → Edge → Type 0
LeavesEdge e l e' =
    (actor : Actor) (V : List OpId) (ls : List Landing) → IsEdge actor V ls e → l.at + l.del ≤ length (ids_through actor V ls)
    → IsEdge actor V (ls ++ l ∷ []) e'

-- The landings fit the elements V, and the edge is theirs.
pub record HasLandings (actor : Actor) (V : List OpId) (landings : Landings) : Type 0 where
  pub fit : AllLandingsFit actor V landings.done.items
  pub edge : IsEdge actor V landings.done.items landings.edge
