use Rattle.tp_list.proofs.Members.{In-get_or}
use Rattle.std.proofs.Common.{◌≡◌, ◌⊎◌, ◌<◌, set, List, [], true, not, length, map, sym, ◌∙◌, ap, arith, subst}
use Rattle.std.specs.Result.{is_ok}
use Rattle.tp_opid.specs.declared.op_id.OpId.{OpId}
use Rattle.tp_elements.specs.declared.links.Latest.{Latest}
use Rattle.tp_elements.specs.declared.links.Link.{Link}
use Rattle.tp_elements.specs.Actors.{latest_at}
use Rattle.tp_elements.specs.Indexed.{note_latest, counter_of_element, link_at}
use Rattle.tp_elements.proofs.Lists.{get_or-any}
use Rattle.tp_elements.proofs.ByActor.{set-note_latest}
use Rattle.tp_elements.proofs.Linking.{IsIndexed-more}
use Rattle.tp_elements.proofs.lookup.link_more.Goals as goal

pub counter-requires : goal.counter-requires
counter-requires c =
    let latest = c.args.latest.now.items in
    let x = latest_at latest c.args.entry in
    let d : Latest = record { actor = record { 0 = [] }; number = 0 } in
    let is : c.index.result.now ≡ x = c.index.ensures ∙ get_or-any latest c.args.entry c.index.result.now d c.requires.entry in
    let there = c.requires.indexed.there x (In-get_or latest c.args.entry d c.requires.entry) in
    let number = ap (λ (w : Latest). w.number) is in
    omega (arith, number, there.0)

pub link_after-link-requires-clause-last : goal.link_after-link-requires-clause-last
link_after-link-requires-clause-last c =
    let latest = c.args.latest.now.items in
    let x = latest_at latest c.args.entry in
    let d : Latest = record { actor = record { 0 = [] }; number = 0 } in
    let is : c.index.result.now ≡ x = c.index.ensures ∙ get_or-any latest c.args.entry c.index.result.now d c.requires.entry in
    let there = c.requires.indexed.there x (In-get_or latest c.args.entry d c.requires.entry) in
    let number = ap (λ (w : Latest). w.number) is in
    let links = ap (λ (z : List Link). length z) c.deref.ensures.value in
    omega (arith, number, there.0, links, c.requires.indexed.many)

pub returns-clause-indexed : goal.returns-clause-indexed
returns-clause-indexed c = λ e is ok.
    let E = c.args.entries.now.items in
    let latest = c.args.latest.now.items in
    let x = latest_at latest c.args.entry in
    let d : Latest = record { actor = record { 0 = [] }; number = 0 } in
    let read : c.index.result.now ≡ x = c.index.ensures ∙ get_or-any latest c.args.entry c.index.result.now d c.requires.entry in
    let written : c.index_mut.result.now ≡ x = c.index_mut.ensures.value ∙ get_or-any latest c.args.entry c.index_mut.result.now d c.requires.entry in
    let inside = In-get_or latest c.args.entry d c.requires.entry in
    let at : c.index.result.now.number ≡ x.number = ap (λ (w : Latest). w.number) read in
    let by : x.actor ≡ e.id.actor = c.requires.actor ∙ sym (ap (λ (w : OpId). w.actor) is) in
    let there = c.requires.indexed.there x inside in
    let held : c.counter.result ≡ counter_of_element E x.number = c.counter.ensures ∙ ap (counter_of_element E) at in
    let same_counter : c.args.id.now.counter ≡ e.id.counter = sym (ap (λ (w : OpId). w.counter) is) in
    let greater : counter_of_element E x.number < e.id.counter = omega (arith, held, same_counter, c.if-id-counter.false) in
    let pushed : is_ok c.push.result ≡ true = c.is_err.ensures.negation ∙ ap not c.if-is_err.false in
    let links_is = rw pushed at c.push.ensures.items in
    let y : Latest = record { actor = c.index_mut.result.now.actor; number = c.len.result } in
    let y_is : y ≡ record { actor = x.actor; number = length E } = ap (λ (w : Latest). let z : Latest = record { actor = w.actor; number = c.len.result } in z) written ∙ ap (λ n. let z : Latest = record { actor = x.actor; number = n } in z) c.len.ensures.value in
    let latest_is : set latest c.args.entry y ≡ map (note_latest e.id.actor (length E)) latest = set-note_latest latest c.args.entry e.id.actor (length E) y c.requires.indexed.sorted c.requires.entry by y_is in
    let links : c.deref.result.now ≡ c.args.links.now.items = c.deref.ensures.value in
    let before : c.link_after-link.result.before ≡ x.number = c.link_after-link.ensures.before ∙ at in
    let jump = subst (λ (z : List Link). (c.link_after-link.result.jump ≡ x.number) ⊎ (c.link_after-link.result.jump ≡ (link_at z (link_at z x.number).jump).jump)) links (subst (λ n. (c.link_after-link.result.jump ≡ n) ⊎ (c.link_after-link.result.jump ≡ (link_at c.deref.result.now (link_at c.deref.result.now n).jump).jump)) at c.link_after-link.ensures.jump) in
    rw (latest_is, links_is) (IsIndexed-more E latest c.args.links.now.items e x c.link_after-link.result c.requires.indexed inside by greater before jump)
