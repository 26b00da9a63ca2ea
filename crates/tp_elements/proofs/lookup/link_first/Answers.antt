use Rattle.std.proofs.Common.{◌≡◌, true, not, length, sym, ◌∙◌, ap, subst}
use Rattle.std.specs.Result.{is_ok}
use Rattle.tp_opid.specs.declared.actor.Actor.{Actor}
use Rattle.tp_opid.specs.declared.op_id.OpId.{OpId}
use Rattle.tp_elements.specs.declared.links.Latest.{Latest}
use Rattle.tp_elements.specs.declared.links.Link.{Link}
use Rattle.tp_elements.specs.Actors.{IsPlaceOf}
use Rattle.tp_elements.proofs.Linking.{IsIndexed-first}
use Rattle.tp_elements.proofs.lookup.link_first.Goals as goal

pub returns-clause-indexed : goal.returns-clause-indexed
returns-clause-indexed c = λ e is.
    let E = c.args.entries.now.items in
    let n = c.len-number.result in
    let last : n ≡ length E = c.len-number.ensures.value in
    let x : Latest = record { actor = c.args.id.now.actor; number = n } in
    let l : Link = record { before = n; jump = n; depth = 0 } in
    let noted : is_ok c.insert.result ≡ true = c.is_err.ensures.negation ∙ ap not c.if-is_err.false in
    let linked : is_ok c.push.result ≡ true = c.is_err-else-is_err.ensures.negation ∙ ap not c.if-is_err-2.false in
    let latest_is = rw noted at c.insert.ensures.items in
    let links_is = rw linked at c.push.ensures.items in
    let by = ap (λ (w : OpId). w.actor) is in
    let place = subst (λ (a : Actor). IsPlaceOf c.args.latest.now.items a c.args.entry) (sym by) c.requires.entry in
    rw (latest_is, links_is) (IsIndexed-first E c.args.latest.now.items c.args.links.now.items e x l c.args.entry c.requires.indexed place (sym by) last last last)
