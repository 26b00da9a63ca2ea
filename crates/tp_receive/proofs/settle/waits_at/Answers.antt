use Rattle.tp_receive.proofs.Common.{◌≡◌, Some, true, false, ap, sym, subst, ◌∙◌, ChangeParts, hash_of, has, has_all, KnowsLack, Lacks, slice_get-there}
use Rattle.tp_receive.proofs.LackingLaws.{entry_within, known_at, known_enters, known_waits, read_at, whole_enters, zipped_set}
use Rattle.tp_receive.proofs.settle.waits_at.Goals as goal

pub is_known-requires : goal.is_known-requires
is_known-requires g c = entry_within (g.R.Replica.applied c.args.replica.now) (g.R.Replica.waiting c.args.replica.now) c.args.lacking.now c.args.i c.requires.knows c.requires.within

pub returns-then-is_known-clause-waits : goal.returns-then-is_known-clause-waits
returns-then-is_known-clause-waits g c x get =
    known_at (g.R.Replica.applied c.args.replica.now) (g.R.Replica.waiting c.args.replica.now) c.args.lacking.now c.args.i c.is_known.result x c.requires.knows c.is_known.ensures c.if-is_known.true get

pub returns-then-contains-clause-waits : goal.returns-then-contains-clause-waits
returns-then-contains-clause-waits g c x get =
    let C = g.R.Replica.applied c.args.replica.now in
    let same = read_at c.pending.result.now (g.R.Replica.waiting c.args.replica.now) c.args.i c.index-pending-i.result x c.pending.ensures.pending c.index-pending-i.is get in
    known_enters C x (subst (λ (y : ChangeParts). has C (hash_of y) ≡ true) same (ap (has C) (sym c.hash.ensures.hash) ∙ sym c.contains.ensures ∙ c.if-contains.true))

pub note-requires : goal.note-requires
note-requires g c = entry_within (g.R.Replica.applied c.args.replica.now) (g.R.Replica.waiting c.args.replica.now) c.args.lacking.now c.args.i c.requires.knows c.requires.within

pub returns-in-Some-clause-knows : goal.returns-in-Some-clause-knows
returns-in-Some-clause-knows g c =
    let C = g.R.Replica.applied c.args.replica.now in
    let W = g.R.Replica.waiting c.args.replica.now in
    let there = slice_get-there W c.args.i c.requires.within in
    let same = read_at c.pending.result.now W c.args.i c.index-pending-i.result there.0 c.pending.ensures.pending c.index-pending-i.is there.1 in
    let new : has C (hash_of c.index-pending-i.result) ≡ false = ap (has C) (sym c.hash.ensures.hash) ∙ sym c.contains.ensures ∙ c.if-contains.false in
    let lacks : Lacks C c.index-pending-i.result (Some c.in-Some.hash) = (new, c.in-Some.ensures.0, c.in-Some.ensures.1) in
    subst (KnowsLack C W) (sym c.note.ensures)
    (zipped_set (Lacks C) W c.args.lacking.now c.args.i there.0 (Some c.in-Some.hash) c.requires.knows there.1
    (subst (λ (y : ChangeParts). Lacks C y (Some c.in-Some.hash)) same lacks))

pub returns-in-Some-clause-waits : goal.returns-in-Some-clause-waits
returns-in-Some-clause-waits g c x get =
    let C = g.R.Replica.applied c.args.replica.now in
    let same = read_at c.pending.result.now (g.R.Replica.waiting c.args.replica.now) c.args.i c.index-pending-i.result x c.pending.ensures.pending c.index-pending-i.is get in
    let new : has C (hash_of c.index-pending-i.result) ≡ false = ap (has C) (sym c.hash.ensures.hash) ∙ sym c.contains.ensures ∙ c.if-contains.false in
    let lacks : Lacks C c.index-pending-i.result (Some c.in-Some.hash) = (new, c.in-Some.ensures.0, c.in-Some.ensures.1) in
    sym (known_waits C x c.in-Some.hash (subst (λ (y : ChangeParts). Lacks C y (Some c.in-Some.hash)) same lacks))

pub returns-in-None-clause-waits : goal.returns-in-None-clause-waits
returns-in-None-clause-waits g c x get =
    let C = g.R.Replica.applied c.args.replica.now in
    let same = read_at c.pending.result.now (g.R.Replica.waiting c.args.replica.now) c.args.i c.index-pending-i.result x c.pending.ensures.pending c.index-pending-i.is get in
    whole_enters C x (subst (λ (y : ChangeParts). has_all C y.deps ≡ true) same c.in-None.ensures)
