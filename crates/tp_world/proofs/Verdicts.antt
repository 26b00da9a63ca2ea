-- What the tests of an event say, each after those before it.
use Rattle.tp_world.proofs.Common.{◌≡◌, ℕ, ◌+◌, List, true, false, Bool, Option, Some, Result, Ok, Err, refl, sym, ◌∙◌, subst, IfOk, MatchBool, AllIn, Actor, ChangeParts, changes_in, PeerState, WorldError, NoPeer, ActorUsed, ForeignChange, HashClash, Stopped, NoEntry, code_of, WorldInvariant, Event, actor_of, foreign_bytes_of, wire_entries_of, peers_of, running_of, RefusesHappening, Passes, WireEntry, World, AllRun, AllThere, IsFresh, Judges, PassesBefore, clashes_in, IsWould}
use Rattle.tp_world.proofs.JudgeLaws.{a_clash, fails_first, no_clash, passes_next}

passes_if : (w : World) (e : Event) (why : WorldError) (b : Bool) → Judges w e why b → b ≡ true → Passes w e why
passes_if w e why true h t = h
passes_if w e why false h t = absurd cc

fails_if : (w : World) (e : Event) (why : WorldError) (b : Bool) → Judges w e why b → b ≡ false → Passes w e why → ⊥
fails_if w e why true h f = absurd cc
fails_if w e why false h f = h

-- ---- one test after another

-- it is passed
pub passes_more : (w : World) (e : Event) (why next : WorldError) (b : Bool) → code_of next ≡ code_of why + 1 → PassesBefore w e why → Judges w e why b → b ≡ true → PassesBefore w e next
passes_more w e why next b is before h t = passes_next w e why next is before (passes_if w e why b h t)

-- it isn't
pub refuses : (w : World) (e : Event) (why : WorldError) (b : Bool) → PassesBefore w e why → Judges w e why b → b ≡ false → RefusesHappening w e why
refuses w e why b before h f = fails_first w e why before (fails_if w e why b h f)

-- ---- hashes that clash

pub refuses_clash : (w : World) (e : Event) (made : Option ChangeParts) (b : Bool) → WorldInvariant w → IsWould w e made → b ≡ clashes_in w.made e made → b ≡ true → PassesBefore w e HashClash → RefusesHappening w e HashClash
refuses_clash w e made b h would is t before = fails_first w e HashClash before (a_clash w e made h would (sym is ∙ t))

pub passes_clash : (w : World) (e : Event) (made : Option ChangeParts) (b : Bool) → WorldInvariant w → IsWould w e made → b ≡ clashes_in w.made e made → b ≡ false → PassesBefore w e HashClash → PassesBefore w e Stopped
passes_clash w e made b h would is f before = passes_next w e HashClash Stopped refl before (no_clash w e made h would (sym is ∙ f))

-- ---- each test, where the lists were borrowed

pub judges_peers : (w : World) (e : Event) (at : List PeerState) (ns : List ℕ) (b : Bool) → at ≡ w.peers → ns ≡ peers_of e → MatchBool b (AllThere at ns) (AllThere at ns → ⊥) → Judges w e NoPeer b
judges_peers w e at ns b same is h =
    subst (λ (l : List ℕ). MatchBool b (AllThere w.peers l) (AllThere w.peers l → ⊥)) is (subst (λ (l : List PeerState). MatchBool b (AllThere l ns) (AllThere l ns → ⊥)) same h)

pub judges_actor : (w : World) (e : Event) (at : List Actor) (actor : Option Actor) (b : Bool) → at ≡ w.used → actor ≡ actor_of e → MatchBool b (IsFresh at actor) (IsFresh at actor → ⊥) → Judges w e ActorUsed b
judges_actor w e at actor b same is h =
    subst (λ (a : Option Actor). MatchBool b (IsFresh w.used a) (IsFresh w.used a → ⊥)) is (subst (λ (l : List Actor). MatchBool b (IsFresh l actor) (IsFresh l actor → ⊥)) same h)

pub judges_running : (w : World) (e : Event) (at : List PeerState) (ns : List ℕ) (b : Bool) → at ≡ w.peers → ns ≡ running_of e → MatchBool b (AllRun at ns) (AllRun at ns → ⊥) → Judges w e Stopped b
judges_running w e at ns b same is h =
    subst (λ (l : List ℕ). MatchBool b (AllRun w.peers l) (AllRun w.peers l → ⊥)) is (subst (λ (l : List PeerState). MatchBool b (AllRun l ns) (AllRun l ns → ⊥)) same h)

pub judges_entry : (w : World) (e : Event) (at : List WireEntry) (ns : List ℕ) (b : Bool) → at ≡ w.wire → ns ≡ wire_entries_of e → MatchBool b (AllThere at ns) (AllThere at ns → ⊥) → Judges w e NoEntry b
judges_entry w e at ns b same is h =
    subst (λ (l : List ℕ). MatchBool b (AllThere w.wire l) (AllThere w.wire l → ⊥)) is (subst (λ (l : List WireEntry). MatchBool b (AllThere l ns) (AllThere l ns → ⊥)) same h)

same_bytes : (xs ys : List ℕ) → Some xs ≡ Some ys → xs ≡ ys
same_bytes xs ys e = cc

pub judges_bytes : (w : World) (e : Event) (bytes : List ℕ) (at : List ChangeParts) (r : Result Bool WorldError) → foreign_bytes_of e ≡ Some bytes → at ≡ w.made
    → IfOk r (λ all. MatchBool all (AllIn (changes_in bytes) at) (AllIn (changes_in bytes) at → ⊥)) → IfOk r (λ made. Judges w e ForeignChange made)
judges_bytes w e bytes at (Ok true) brings same all = λ other is.
    let one : bytes ≡ other = same_bytes bytes other (sym brings ∙ is) in
    subst (λ (b : List ℕ). AllIn (changes_in b) w.made) one (subst (λ (l : List ChangeParts). AllIn (changes_in bytes) l) same all)
judges_bytes w e bytes at (Ok false) brings same none = λ passes. none (subst (λ (l : List ChangeParts). AllIn (changes_in bytes) l) (sym same) (passes bytes brings))
judges_bytes w e bytes at (Err x) brings same h = tt
