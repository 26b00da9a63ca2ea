-- What is drawn under a key.
use Rattle.std.specs.Prelude.{◌≡◌, ℕ, List, Option, Some, None}
use Rattle.rand_chacha.specs.ChaCha.{ChaCha, of_seed}
use Rattle.tp_opid.specs.declared.actor.Actor.{Actor}
use Rattle.tp_peer.specs.Actors.{after_word, fresh_actor_of}

-- the generator is at its beginning, and has the key, or one of its own where none is given
abbrev pub IsKeyed : Option (List ℕ) → ChaCha → Type 0
IsKeyed None generator = (key : List ℕ) × (generator ≡ of_seed key)
IsKeyed (Some key) generator = generator ≡ of_seed key

-- the actor that is drawn from the generator, and the generator afterwards
unfoldable pub drawn_actor : ChaCha → Actor
drawn_actor generator = fresh_actor_of generator

unfoldable pub after_draw : ChaCha → ChaCha
after_draw generator = after_word (after_word (after_word (after_word generator)))

-- the actor is drawn from a generator that has the key, or one of its own where none is given
abbrev pub IsDrawn : Option (List ℕ) → Actor → Type 0
IsDrawn key actor = (g : ChaCha) × IsKeyed key g × (actor ≡ drawn_actor g)
