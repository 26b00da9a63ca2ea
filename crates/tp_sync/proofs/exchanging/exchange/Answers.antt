use Rattle.tp_sync.proofs.Common.{◌≡◌, ◌∙◌, sym, SyncError, ExchangeStops, OtherDocument, same_doc-apart, same_doc-same}
use Rattle.tp_sync.proofs.ExchangeLaws.{if_err, only_other, stops_not_other}
use Rattle.tp_sync.proofs.exchanging.exchange.Goals as goal

pub returns-then-not-is-clause-other : goal.returns-then-not-is-clause-other
returns-then-not-is-clause-other g c = λ e. same_doc-apart c.id.result c.id-2.result (sym c.is.ensures ∙ c.if-not-is.true) (c.id.ensures ∙ e ∙ sym c.id-2.ensures)

pub returns-clause-other : goal.returns-clause-other
returns-clause-other g c =
    only_other c.exchange_from.result c.args.a.now.id c.args.b.now.id
    (sym c.id.ensures ∙ same_doc-same c.id.result c.id-2.result (sym c.is.ensures ∙ c.if-not-is.false) ∙ c.id-2.ensures)
    (if_err (λ (e : SyncError). ExchangeStops c.args.a.now c.args.b.now c.exchange_from.new.a c.exchange_from.new.b e) (λ (e : SyncError). e ≡ OtherDocument → ⊥) c.exchange_from.result
    (stops_not_other c.args.a.now c.args.b.now c.exchange_from.new.a c.exchange_from.new.b) c.exchange_from.ensures.err)
