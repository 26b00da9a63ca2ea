use Rattle.std.proofs.Common.{◌≡◌, ◌<◌, List, true, length, position, sym, ◌∙◌, ap, arith, subst}
use Rattle.tp_opid.specs.Insert.{Insert}
use Rattle.tp_opid.specs.Same.{id_eq}
use Rattle.tp_elements.specs.declared.links.Latest.{Latest}
use Rattle.tp_elements.specs.Came.{element_at, Came}
use Rattle.tp_elements.specs.Actors.{IsPlaceOf}
use Rattle.tp_elements.specs.Indexed.{counter_of_element}
use Rattle.tp_elements.proofs.Linking.{entry_read, look_nobody, look_above, look_found, look_below, look_guessed}
use Rattle.tp_elements.proofs.elements.Elements.number_of.Goals as goal

pub returns-in_default : goal.returns-in_default
returns-in_default c =
    let s = c.self.inside in
    let id = c.args.id.now in
    let kept = c.self.invariant c.if-not-self.false in
    let place = subst (λ (z : List Latest). IsPlaceOf z id.actor c.in_default.field-0) c.deref.ensures.value c.in_default.ensures.none in
    sym (look_nobody s.entries.items s.latest.items s.links.items id c.in_default.field-0 kept place) ∙ ap (λ (v : Came). position (λ (e : Insert). id_eq e.id id) v.items) c.self.view_is

pub likely-at-requires : goal.likely-at-requires
likely-at-requires c =
    let entry = entry_read c.in-Ok.entry c.args.id.now.actor (c.self.invariant c.if-not-self.false) c.deref.ensures.value c.in-Ok.ensures.found c.index.ensures in
    omega (arith, entry.2)

pub id-requires : goal.id-requires
id-requires c =
    let entry = entry_read c.in-Ok.entry c.args.id.now.actor (c.self.invariant c.if-not-self.false) c.deref.ensures.value c.in-Ok.ensures.found c.index.ensures in
    omega (arith, entry.2, c.likely-at.ensures)

pub returns-then-is : goal.returns-then-is
returns-then-is c =
    let s = c.self.inside in
    let E = s.entries.items in
    let id = c.args.id.now in
    let kept = c.self.invariant c.if-not-self.false in
    let entry = entry_read c.in-Ok.entry c.args.id.now.actor kept c.deref.ensures.value c.in-Ok.ensures.found c.index.ensures in
    let at = c.likely-at.result in
    let within : at < length E = omega (arith, entry.2, c.likely-at.ensures) in
    let named : id_eq (element_at E at).id id ≡ true = sym (ap (λ i. id_eq i id) c.id.ensures) ∙ sym c.is.ensures ∙ c.if-is.true in
    sym (look_guessed E s.latest.items s.links.items id at kept within named) ∙ ap (λ (v : Came). position (λ (e : Insert). id_eq e.id id) v.items) c.self.view_is

pub seek-requires-clause-from : goal.seek-requires-clause-from
seek-requires-clause-from c =
    let entry = entry_read c.in-Ok.entry c.args.id.now.actor (c.self.invariant c.if-not-self.false) c.deref.ensures.value c.in-Ok.ensures.found c.index.ensures in
    omega (arith, entry.2)

pub returns-in_err-at : goal.returns-in_err-at
returns-in_err-at c =
    let s = c.self.inside in
    let E = s.entries.items in
    let id = c.args.id.now in
    let kept = c.self.invariant c.if-not-self.false in
    let entry = entry_read c.in-Ok.entry c.args.id.now.actor kept c.deref.ensures.value c.in-Ok.ensures.found c.index.ensures in
    let x = c.index.result.now in
    let greater = c.in_err-at.ensures.none in
    c.from_residual.ensures ∙ sym (look_above E s.latest.items s.links.items id x kept entry.0 entry.1 greater) ∙ ap (λ (v : Came). position (λ (e : Insert). id_eq e.id id) v.items) c.self.view_is

pub returns-then-counter-id : goal.returns-then-counter-id
returns-then-counter-id c =
    let s = c.self.inside in
    let E = s.entries.items in
    let id = c.args.id.now in
    let kept = c.self.invariant c.if-not-self.false in
    let entry = entry_read c.in-Ok.entry c.args.id.now.actor kept c.deref.ensures.value c.in-Ok.ensures.found c.index.ensures in
    let x = c.index.result.now in
    let seen = c.in_ok-at.ensures.found in
    let read : c.counter.result ≡ counter_of_element E c.in_ok-at.at = c.counter.ensures in
    sym (look_found E s.latest.items s.links.items id x c.in_ok-at.at kept entry.0 entry.1 seen.0 seen.1 (sym read ∙ c.if-counter-id.true)) ∙ ap (λ (v : Came). position (λ (e : Insert). id_eq e.id id) v.items) c.self.view_is

pub returns-else-counter-id : goal.returns-else-counter-id
returns-else-counter-id c =
    let s = c.self.inside in
    let E = s.entries.items in
    let id = c.args.id.now in
    let kept = c.self.invariant c.if-not-self.false in
    let entry = entry_read c.in-Ok.entry c.args.id.now.actor kept c.deref.ensures.value c.in-Ok.ensures.found c.index.ensures in
    let x = c.index.result.now in
    let seen = c.in_ok-at.ensures.found in
    let read : c.counter.result ≡ counter_of_element E c.in_ok-at.at = c.counter.ensures in
    let small = seen.2 in
    let apart = c.if-counter-id.false in
    let less : counter_of_element E c.in_ok-at.at < id.counter = omega (arith, read) in
    sym (look_below E s.latest.items s.links.items id x c.in_ok-at.at kept entry.0 entry.1 seen.0 seen.1 less seen.3) ∙ ap (λ (v : Came). position (λ (e : Insert). id_eq e.id id) v.items) c.self.view_is
