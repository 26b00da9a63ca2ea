-- What always holds of the index from identifiers to numbers.
use Rattle.std.specs.Prelude.{◌≡◌, ℕ, ◌<◌, ◌≤◌, List, length, slice_index_or, if◌then◌else◌}
use Rattle.tp_list.specs.Members.{In}
use Rattle.tp_opid.specs.declared.actor.Actor.{Actor}
use Rattle.tp_opid.specs.Insert.{Insert}
use Rattle.tp_opid.specs.Same.{same_actor}
use Rattle.tp_elements.specs.declared.links.Link.{Link}
use Rattle.tp_elements.specs.declared.links.Latest.{Latest}
use Rattle.tp_elements.specs.Actors.{AreByActor}
use Rattle.tp_elements.specs.Came.{element_at}

-- the actor and the counter of the element with a number
abbrev pub actor_of_element : List Insert → ℕ → Actor
actor_of_element E k = (element_at E k).id.actor

abbrev pub counter_of_element : List Insert → ℕ → ℕ
counter_of_element E k = (element_at E k).id.counter

-- a link that stands for none
abbrev pub no_link : Link
no_link = record { before = 0; jump = 0; depth = 0 }

-- the link of a number
abbrev pub link_at : List Link → ℕ → Link
link_at links k = slice_index_or links k no_link

-- what an actor's latest element is noted as
abbrev pub note_latest : Actor → ℕ → Latest → Latest
note_latest a n x = if same_actor x.actor a then record { actor = x.actor; number = n } else x

-- A link of the element numbered k names earlier elements of its actor, or itself: the one right before it, if there
-- is one, and any.
pub record IsLink (E : List Insert) (k : ℕ) (l : Link) : Type 0 where
  pub before : l.before ≤ k
  pub before_by : actor_of_element E l.before ≡ actor_of_element E k
  pub jump : l.jump ≤ k
  pub jump_by : actor_of_element E l.jump ≡ actor_of_element E k
  pub prior : (j : ℕ) → j < k → actor_of_element E j ≡ actor_of_element E k → (l.before < k) × (j ≤ l.before)

-- Each actor's counters rise; each element has its link, and each actor its latest element, in the order of the actors.
pub record IsIndexed (E : List Insert) (latest : List Latest) (links : List Link) : Type 0 where
  pub sorted : AreByActor latest
  pub many : length links ≡ length E
  pub linked : (k : ℕ) → k < length E → IsLink E k (link_at links k)
  pub rises : (j k : ℕ) → j < k → k < length E → actor_of_element E j ≡ actor_of_element E k → counter_of_element E j < counter_of_element E k
  pub known : (k : ℕ) → k < length E → (x : Latest) × In x latest × (x.actor ≡ actor_of_element E k)
  pub there : (x : Latest) → In x latest → (x.number < length E) × (actor_of_element E x.number ≡ x.actor)
  pub last : (x : Latest) → In x latest → (j : ℕ) → j < length E → actor_of_element E j ≡ x.actor → j ≤ x.number
