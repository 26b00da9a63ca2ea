use Rattle.tp_mirroring.proofs.FolderLaws.{begun, still}
use Rattle.tp_mirroring.proofs.folder.Folder.new.Goals as goal

pub invariant_of-result : goal.invariant_of-result
invariant_of-result g c = still _ _ c.nothing.ensures (begun c.requires.saw c.requires.note c.requires.runs c.requires.first)
