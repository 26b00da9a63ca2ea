use Rattle.std.proofs.Common.{refl, sym, ◌∙◌}
use Rattle.tp_mirror.proofs.Keeping.{kept-read}
use Rattle.tp_mirror.proofs.Watching.{place_in, read-found-by, remove-known, remove-absent-by, remove-empty-by, remove-left_empty-by, remove-text}
use Rattle.tp_mirror.proofs.moved.forget.Goals as goal

pub remove-requires-clause-kept : goal.remove-requires-clause-kept
remove-requires-clause-kept g c = kept-read _ _ _ _ _ _ c.in_ok-look.ensures c.requires.kept

pub remove-requires-clause-at : goal.remove-requires-clause-at
remove-requires-clause-at g c = (c.index-as_slice-at.result, place_in _ _ _ _ _ refl c.as_slice.ensures c.requires.within c.index-as_slice-at.is, refl)

pub remove-requires-clause-read : goal.remove-requires-clause-read
remove-requires-clause-read g c =
    remove-known _ _ _ _ c.index-as_slice-at.result _ _ (kept-read _ _ _ _ _ _ c.in_ok-look.ensures c.requires.kept)
    (place_in _ _ _ _ _ refl c.as_slice.ensures c.requires.within c.index-as_slice-at.is) (read-found-by _ _ _ _ _ c.in_ok-look.ensures c.in-Text.is) (sym (c.if-is.ensures.0 refl) ∙ c.in-Text.text-is) c.in_ok-known.ensures

pub take_in-requires-clause-kept : goal.take_in-requires-clause-kept
take_in-requires-clause-kept g c = kept-read _ _ _ _ _ _ c.in_ok-look.ensures c.requires.kept

pub take_in-requires-clause-read : goal.take_in-requires-clause-read
take_in-requires-clause-read g c = read-found-by _ _ _ _ _ c.in_ok-look.ensures c.in-Text-2.is

pub remove-requires-in-Text-2-clause-at : goal.remove-requires-in-Text-2-clause-at
remove-requires-in-Text-2-clause-at g c = (c.index-as_slice-at.result, place_in _ _ _ _ _ c.in_ok-known-in-Text-2.ensures.moved c.as_slice.ensures c.requires.within c.index-as_slice-at.is, refl)

pub remove-requires-in-Text-2-clause-read : goal.remove-requires-in-Text-2-clause-read
remove-requires-in-Text-2-clause-read g c = let t = c.in_ok-known-in-Text-2.ensures.taken in remove-text _ _ _ _ t.read t.digest_is t.made

pub remove_empty-requires-clause-kept : goal.remove_empty-requires-clause-kept
remove_empty-requires-clause-kept g c = kept-read _ _ _ _ _ _ c.in_ok-look.ensures c.requires.kept

pub remove_empty-requires-clause-at : goal.remove_empty-requires-clause-at
remove_empty-requires-clause-at g c = (c.index-as_slice-at.result, place_in _ _ _ _ _ refl c.as_slice.ensures c.requires.within c.index-as_slice-at.is, refl)

pub remove_empty-requires-clause-read : goal.remove_empty-requires-clause-read
remove_empty-requires-clause-read g c = remove-absent-by _ _ _ _ c.in_ok-look.ensures c.in-Absent.is

pub remove_empty-requires-in-Empty-clause-kept : goal.remove_empty-requires-in-Empty-clause-kept
remove_empty-requires-in-Empty-clause-kept g c = kept-read _ _ _ _ _ _ c.in_ok-look.ensures c.requires.kept

pub remove_empty-requires-in-Empty-clause-at : goal.remove_empty-requires-in-Empty-clause-at
remove_empty-requires-in-Empty-clause-at g c = (c.index-as_slice-at.result, place_in _ _ _ _ _ refl c.as_slice.ensures c.requires.within c.index-as_slice-at.is, refl)

pub remove_empty-requires-in-Empty-clause-read : goal.remove_empty-requires-in-Empty-clause-read
remove_empty-requires-in-Empty-clause-read g c = remove-empty-by _ _ _ _ c.in_ok-look.ensures c.in-Empty.is

pub remove_empty-requires-in-LeftEmpty-clause-kept : goal.remove_empty-requires-in-LeftEmpty-clause-kept
remove_empty-requires-in-LeftEmpty-clause-kept g c = kept-read _ _ _ _ _ _ c.in_ok-look.ensures c.requires.kept

pub remove_empty-requires-in-LeftEmpty-clause-at : goal.remove_empty-requires-in-LeftEmpty-clause-at
remove_empty-requires-in-LeftEmpty-clause-at g c = (c.index-as_slice-at.result, place_in _ _ _ _ _ refl c.as_slice.ensures c.requires.within c.index-as_slice-at.is, refl)

pub remove_empty-requires-in-LeftEmpty-clause-read : goal.remove_empty-requires-in-LeftEmpty-clause-read
remove_empty-requires-in-LeftEmpty-clause-read g c = remove-left_empty-by _ _ _ _ c.in_ok-look.ensures c.in-LeftEmpty.is

pub returns : goal.returns
returns g c = kept-read _ _ _ _ _ _ c.in_ok-look.ensures c.requires.kept
