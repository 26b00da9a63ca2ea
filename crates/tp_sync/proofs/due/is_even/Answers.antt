use Rattle.tp_sync.proofs.Common.{◌≡◌, ◌∙◌, List, Some, ap, sym, list_any, Hash, ChangeParts, heads, has, SyncParts}
use Rattle.tp_sync.proofs.LoadLaws.{even_is, not_any}
use Rattle.tp_sync.proofs.due.is_even.Goals as goal

pub returns-then-are : goal.returns-then-are
returns-then-are c =
    let C : List ChangeParts = c.args.graph.now.applied in
    let s : SyncParts = c.args.state.now in
    let same : s.theirs ≡ Some (heads C) = sym (ap (λ (t : SyncParts). t.theirs) c.state.view_is) ∙ c.are.ensures.0 c.if-are.true ∙ ap Some c.heads.ensures in
    let any : c.has_any.result ≡ list_any (λ (h : Hash). has C h) s.wants =
    c.has_any.ensures ∙ ap (list_any (λ (h : Hash). has C h)) (c.as_slice.ensures ∙ ap (λ (t : SyncParts). t.wants) c.state.view_is) in
    let w = even_is C s c.changes-changes.ensures.sound same in (
      λ none. record { theirs = same; none = w.0 (sym any ∙ (not_any c.has_any.result).0 none) },
      λ even. (not_any c.has_any.result).1 (any ∙ w.1 even.none),
    )
