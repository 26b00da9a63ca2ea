use Rattle.tp_sync.proofs.Common.{◌∙◌, ◌++◌, ap, List, Hash, heads, has_all}
use Rattle.tp_sync.proofs.KnownLaws.{has_all-declared}
use Rattle.tp_sync.proofs.laws.what_is_declared_is_there.Goals as goal

pub returns : goal.returns
returns c C W s t m w =
    ap (λ (hs : List Hash). has_all C (hs ++ m.known)) w.heads ∙ ap (λ (ks : List Hash). has_all C (heads C ++ ks)) w.known ∙ has_all-declared C
