use Rattle.tp_mirroring.proofs.FolderLaws.{still, text_kept}
use Rattle.tp_mirroring.proofs.folder.Folder.look_at_text.Goals as goal

pub invariant_of-self : goal.invariant_of-self
invariant_of-self g c = still _ _ c.note_look.ensures (text_kept c.self.invariant c.args.source _ _ _ c.in_ok-kept.ensures.ok c.requires)
