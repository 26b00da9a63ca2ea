use Rattle.tp_receive.proofs.Common.{◌∙◌, List, length, subst, Hash, ap, has_hash}
use Rattle.std.specs.List.Sorted.{IsBinarySearchResult, IsSearchInRange}
use Rattle.tp_opid.specs.Order.{hash_cmp}
use Rattle.tp_receive.proofs.HashLaws.{found_in_order}
use Rattle.tp_receive.proofs.hashes.Sorted.has.Goals as goal

pub returns : goal.returns
unfolding hash_cmp
returns c =
    let h = c.args.hash.now in
    let r = c.binary_search.result in
    c.is_ok.ensures.value
    ∙ found_in_order c.self.inside.hashes.items h r c.self.invariant
    (subst (λ (l : List Hash). IsSearchInRange r (length l)) c.deref.ensures.value c.binary_search.ensures.bound)
    (subst (λ (l : List Hash). IsBinarySearchResult (λ y. hash_cmp y h) l r) c.deref.ensures.value c.binary_search.ensures.position)
    ∙ ap (λ (l : List Hash). has_hash l h) c.self.view_is
