use Rattle.tp_mirroring.proofs.FolderLaws.{look_kept, still}
use Rattle.tp_mirroring.proofs.folder.Folder.keep_look.Goals as goal

pub invariant_of-self : goal.invariant_of-self
invariant_of-self g c = still _ _ c.note_look.ensures (look_kept c.self.invariant c.args.source c.args.look c.requires)
