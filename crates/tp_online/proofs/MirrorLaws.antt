-- What a mirror that goes on says.
use Rattle.std.proofs.Common.{◌≡◌, refl, sym, subst, List, [], ◌∷◌, ◌++◌, ℕ, Option, Some, None, Result, Ok, Err}
use Rattle.std.specs.Prelude.{OnErr}
use Rattle.tp_commands.specs.declared.error.CommandError.{CommandError}
use Rattle.tp_disk.specs.DiskView.{DiskView}
use Rattle.tp_disk.specs.Opening.{MayCutFile}
use Rattle.tp_report.specs.Telling.{GrowsBy, Reports}
use Rattle.tp_online.specs.Mirroring.{MirrorTurn, SharedTurn, TellsPassing, TellsShared, TellsSharedTurns, TellsSome, TellsTurns}
use Rattle.tp_online.specs.Sessions.{IsFollowed, ReportsEach}
use Rattle.tp_online.proofs.FollowLaws.{Stops, stops_after, stops_before}

module _ (saw : DiskView → Type 0) (file : List ℕ) where
  -- nothing was said
  pub says_nothing : (a : Option (List ℕ)) → TellsSome saw file a a
  says_nothing a = ([], refl)

  -- one turn
  pub turn_said : (a b c : Option (List ℕ)) (cut : Option ℕ) (told : Option CommandError) → MayCutFile saw file cut → Reports file cut None a b → TellsPassing told b c → TellsSome saw file a c
  turn_said a b c cut told may reports tells = (record { cut = cut; told = told } ∷ [], (b, c, may, reports, tells, refl))

  turns_join : (ts us : List MirrorTurn) (a b c : Option (List ℕ)) → TellsTurns saw file ts a b → TellsTurns saw file us b c → TellsTurns saw file (ts ++ us) a c
  turns_join [] us a b c same then = subst (λ (x : Option (List ℕ)). TellsTurns saw file us x c) (sym same) then
  turns_join (t ∷ ts) us a b c (mid, next, may, reports, tells, rest) then = (mid, next, may, reports, tells, turns_join ts us next b c rest then)

  -- some turns after others
  pub says_more : (a b c : Option (List ℕ)) → TellsSome saw file a b → TellsSome saw file b c → TellsSome saw file a c
  says_more a b c first then = (first.0 ++ then.0, turns_join first.0 then.0 a b c first.1 then.1)

-- one turn, whatever the journal's path is called
pub turn_at : (saw : DiskView → Type 0) (path file : List ℕ) → path ≡ file → (a b c : Option (List ℕ)) (cut : Option ℕ) (told : Option CommandError) → MayCutFile saw file cut
    → Reports path cut None a b → TellsPassing told b c → TellsSome saw file a c
turn_at saw path file is a b c cut told may reports tells = turn_said saw file a b c cut told may (subst (λ (p : List ℕ). Reports p cut None a b) is reports) tells

module _ (saw : DiskView → Type 0) (file : List ℕ) where
  -- no turn was shared
  pub shares_nothing : (a : Option (List ℕ)) → TellsShared saw file a a
  shares_nothing a = ([], refl)

  shared_join : (ts us : List SharedTurn) (a b c : Option (List ℕ)) → TellsSharedTurns saw file ts a b → TellsSharedTurns saw file us b c → TellsSharedTurns saw file (ts ++ us) a c
  shared_join [] us a b c same then = subst (λ (x : Option (List ℕ)). TellsSharedTurns saw file us x c) (sym same) then
  shared_join (t ∷ ts) us a b c (mid, next, told, cuts, rest) then = (mid, next, told, cuts, shared_join ts us next b c rest then)

  -- one more was, and a session after it
  pub shares_more : (a b c d : Option (List ℕ)) → TellsShared saw file a b → TellsSome saw file b c → (cuts : List (Option ℕ)) × ReportsEach saw file cuts c d → TellsShared saw file a d
  shares_more a b c d first turn session =
      (first.0 ++ record { turns = turn.0; cuts = session.0 } ∷ [], shared_join first.0 (record { turns = turn.0; cuts = session.0 } ∷ []) a b d first.1 (c, d, turn.1, session.1, refl))

  -- or none after it
  pub shares_last : (a b c : Option (List ℕ)) → TellsShared saw file a b → TellsSome saw file b c → TellsShared saw file a c
  shares_last a b c first turn = shares_more a b c c first turn ([], refl)

-- what was said of the journal by another path
pub said_at : (saw : DiskView → Type 0) (path file : List ℕ) → path ≡ file → (a b : Option (List ℕ)) → TellsSome saw path a b → TellsSome saw file a b
said_at saw path file is a b told = subst (λ (p : List ℕ). TellsSome saw p a b) is told

pub may_cut_at : {A E : Type 0} (done : Result A E) (saw : DiskView → Type 0) (path file : List ℕ) → path ≡ file → (cut : Option ℕ) → MayCutFile saw path cut → OnErr done (MayCutFile saw file cut)
may_cut_at (Ok x) saw path file is cut may = tt
may_cut_at (Err e) saw path file is cut may = subst (λ (p : List ℕ). MayCutFile saw p cut) is may

-- some sessions were held, and no more
pub stops_here : (saw : DiskView → Type 0) (file : List ℕ) (key : Option (List ℕ)) (n : ℕ) (a b : Option (List ℕ)) → GrowsBy (IsFollowed saw file key n) a b → Stops saw file key a b
stops_here saw file key n a b first = let done : Result (Unit {0}) (Unit {0}) = Err tt in stops_after saw file key done n a b b first (stops_before saw file key b)
