use Rattle.tp_history.proofs.Common.{◌≡◌, ◌∙◌, ◌++◌, ◌∷◌, [], ℕ, List, Bool, true, false, cond, Option, Some, None, Result, Ok, Err, OnErr, refl, sym, ap, append-nil, lookup, Actor, same_actor-same, list_or_none, places_of}
use Rattle.std.proofs.Common.{rules}
use Rattle.tp_opid.specs.Order.{actor_cmp}
use Rattle.tp_opid.specs.Same.{same_actor}
use Rattle.tp_history.proofs.by_actor.ByActor.put_more.Goals as goal

-- what each actor has where b has the list xs in place of what it had
replaced : (entries : List (Actor × List ℕ)) (a b : Actor) (o : Option (List ℕ)) (xs ys : List ℕ)
    → lookup (same_actor b) entries ≡ o → xs ≡ list_or_none o ++ ys → list_or_none (cond (same_actor b a) (Some xs) (lookup (same_actor a) entries)) ≡ places_of entries a ++ cond (same_actor b a) ys []
replaced entries a b o xs ys at e = by (same_actor b a) refl where
  by : (t : Bool) → same_actor b a ≡ t → list_or_none (cond t (Some xs) (lookup (same_actor a) entries)) ≡ places_of entries a ++ cond t ys []
  by true t = e ∙ ap (λ p. list_or_none p ++ ys) (sym at ∙ ap (λ c. lookup (same_actor c) entries) (same_actor-same b a t))
  by false t = sym (append-nil (places_of entries a))

kept : (entries : List (Actor × List ℕ)) (a b : Actor) (xs ys : List ℕ) → lookup (same_actor b) entries ≡ Some xs → ys ≡ xs → list_or_none (cond (same_actor b a) (Some ys) (lookup (same_actor a) entries)) ≡ places_of entries a
kept entries a b xs ys at e = by (same_actor b a) refl where
  by : (t : Bool) → same_actor b a ≡ t → list_or_none (cond t (Some ys) (lookup (same_actor a) entries)) ≡ places_of entries a
  by true t = e ∙ ap list_or_none (sym at ∙ ap (λ c. lookup (same_actor c) entries) (same_actor-same b a t))
  by false t = refl

on_err : {T E P : Type 0} (r : Result T E) → P → OnErr r P
on_err (Ok x) p = tt
on_err (Err e) p = p

pub returns-in_err-push-in-Some-clause-err : goal.returns-in_err-push-in-Some-clause-err
unfolding same_actor actor_cmp
returns-in_err-push-in-Some-clause-err c = on_err c.from_residual.result (λ a.
    ap list_or_none (((c.get_mut.follows.holds c.push.new.self).3 (search rules)).0 a)
    ∙ kept c.args.self.now.lists.entries a c.args.actor c.in-Some.places.now c.push.new.self (sym c.in-Some.ensures.value) c.in_err-push-in-Some.ensures.err)

pub returns-in_ok-push-in-Some-clause-ok : goal.returns-in_ok-push-in-Some-clause-ok
unfolding same_actor actor_cmp
returns-in_ok-push-in-Some-clause-ok c = λ a.
    ap list_or_none (((c.get_mut.follows.holds c.push.new.self).3 (search rules)).0 a)
    ∙ replaced c.args.self.now.lists.entries a c.args.actor (Some c.in-Some.places.now) c.push.new.self (c.args.place ∷ []) (sym c.in-Some.ensures.value) c.in_ok-push-in-Some.ensures.ok

pub returns-in_ok-insert-in-None-clause-ok : goal.returns-in_ok-insert-in-None-clause-ok
unfolding same_actor actor_cmp
returns-in_ok-insert-in-None-clause-ok c =
    let updates = rw c.get_mut.follows.holds-at-none at c.in_ok-insert-in-None.ensures.updates.0 in
    λ a.
    ap list_or_none (updates a)
    ∙ replaced c.args.self.now.lists.entries a c.args.actor None c.in_ok-places-in-None.places (c.args.place ∷ []) (sym c.in-None.ensures.value) c.in_ok-places-in-None.ensures
