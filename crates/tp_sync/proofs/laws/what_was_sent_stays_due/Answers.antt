use Rattle.tp_sync.proofs.Common.{◌≡◌, ◌∙◌, ◌++◌, ap, List, Option, Hash, declared_hashes, due_of, option_map}
use Rattle.tp_sync.proofs.laws.what_was_sent_stays_due.Goals as goal

pub returns : goal.returns
returns c C W s t m w =
    let same : declared_hashes t ≡ declared_hashes s =
    ap (λ (o : Option (List Hash)). option_map (λ (hs : List Hash). hs ++ t.known) o) w.theirs ∙ ap (λ (k : List Hash). option_map (λ (hs : List Hash). hs ++ k) s.theirs) w.their_known in
    ap (λ o. due_of C o t.wants C) same ∙ ap (λ k. due_of C (declared_hashes s) k C) w.their_wants
