use Rattle.std.proofs.Common.{ap}
use Rattle.tp_mirroring.specs.Folder.{FolderView}
use Rattle.tp_mirroring.proofs.FolderLaws.{took}
use Rattle.tp_mirroring.proofs.folder.Folder.rewrite.Goals as goal

pub invariant_of-self : goal.invariant_of-self
invariant_of-self g c = took c.self.invariant _ (ap (λ (f : FolderView). f.seen) c.self.view_is) _ _ c.requires.1.1 c.if-self.false _ _ _ _ c.as_str.ensures.value c.in-Ok.ensures.grows c.in-Ok.ensures.ok
