use Rattle.std.proofs.Common.{◌∙◌, List, length, subst}
use Rattle.std.specs.List.Sorted.{IsBinarySearchResult, IsSearchInRange}
use Rattle.tp_opid.specs.declared.hash.Hash.{Hash}
use Rattle.tp_opid.specs.Order.{hash_cmp}
use Rattle.tp_history.specs.Heads.{heads}
use Rattle.tp_history.proofs.HeadsLaws.{heads_rise}
use Rattle.tp_commands.proofs.GraphLines.{found_among}
use Rattle.tp_commands.proofs.graph.is_head.Goals as goal

pub returns : goal.returns
unfolding hash_cmp
returns c =
    let C = c.args.document.now.applied in
    let h = c.args.hash.now in
    let r = c.binary_search.result in
    c.is_ok.ensures.value
    ∙ found_among (heads C) h r (heads_rise C) (subst (λ (hs : List Hash). IsSearchInRange r (length hs)) c.heads.ensures c.binary_search.ensures.bound)
    (subst (λ (hs : List Hash). IsBinarySearchResult (λ y. hash_cmp y h) hs r) c.heads.ensures c.binary_search.ensures.position)
