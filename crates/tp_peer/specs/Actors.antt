-- Actors: whether changes have one, and how a fresh one is drawn.
use Rattle.std.specs.Prelude.{ℕ, List, [], ◌∷◌, ◌++◌, Bool, false, ◌||◌}
use Rattle.tp_peer.specs.Common.{Actor, ChangeParts}
use Rattle.std.specs.Int.{w32, to_be_bytes}
use Rattle.rand_chacha.specs.ChaCha.{ChaCha, next_word}
use Rattle.tp_opid.specs.Same.{same_actor}

-- one of the changes is the actor's
abbrev pub has_actor : List ChangeParts → Actor → Bool
has_actor [] a = false
has_actor (c ∷ C) a = same_actor c.actor a || has_actor C a

-- the generator after its next word
abbrev pub after_word : ChaCha → ChaCha
after_word g = (next_word 10 g).1

-- the bytes of the generator's next word
abbrev pub word_bytes : ChaCha → List ℕ
word_bytes g = to_be_bytes w32 (next_word 10 g).0

-- the actor that the generator's next four words are
abbrev pub fresh_actor_of : ChaCha → Actor
fresh_actor_of g =
    record { 0 = word_bytes g ++ (word_bytes (after_word g) ++ (word_bytes (after_word (after_word g)) ++ word_bytes (after_word (after_word (after_word g))))) }
