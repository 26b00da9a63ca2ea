-- What is said of a job's journal where bytes were to be cut off it.
use Rattle.std.proofs.Common.{◌≡◌, ◌⊎◌, ⊎_elim, ℕ, Option, None, inl, refl, subst, sym}
use Rattle.tp_command_line.specs.declared.job.Job.{Job}
use Rattle.tp_command_line.specs.declared.job.Job.TheVariants.{Files, Follow, Keep, Serve, Session, Share, Sync, Web}
use Rattle.tp_disk.specs.DiskView.{DiskView}
use Rattle.tp_program.specs.Output.{MayCutForJob}

-- nothing may be said of any
never : (saw : DiskView → Type 0) (job : Job) → MayCutForJob saw job None
never saw (Files job) = inl refl
never saw (Serve file addr sessions workers patience is_verbose text take key) = inl refl
never saw (Session file is_client key) = inl refl
never saw (Sync file addr patience key) = inl refl
never saw (Follow file addr every sessions patience key) = inl refl
never saw (Keep file note take every key) = inl refl
never saw (Share file note take addr every sessions patience key) = inl refl
never saw (Web file hosting text take key) = inl refl

-- nothing, or what may be said
pub said_or_not : (saw : DiskView → Type 0) (job : Job) (cut off : Option ℕ) → MayCutForJob saw job cut → (off ≡ None) ⊎ (off ≡ cut) → MayCutForJob saw job off
said_or_not saw job cut off may is =
    ⊎_elim (λ none. subst (MayCutForJob saw job) (sym none) (never saw job)) (λ same. subst (MayCutForJob saw job) (sym same) may) is
