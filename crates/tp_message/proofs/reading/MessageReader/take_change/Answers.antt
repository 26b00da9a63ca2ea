use Rattle.tp_message.proofs.Common.{◌≡◌, ◌-◌, [], ap, subst, ◌∙◌, refl, arith, AreBytes, parts_in, ReaderState, EndsAtField, Body, Failed, RefusesPiece, TakesPiece}
use Rattle.tp_message.proofs.ReaderLaws.{answers_refusal, change_ends, change_read, change_failed}
use Rattle.tp_message.proofs.reading.MessageReader.take_change.Goals as goal

pub invariant_of-self : goal.invariant_of-self
invariant_of-self c =
    let s : ReaderState = record { stage = c.self.inside.stage; parts = parts_in c.self.inside.lists; held = c.self.inside.held.items; left = c.self.inside.left } in
    let t : ReaderState = record { stage = c.in-Ok.next; parts = parts_in c.next_change.new.lists; held = c.self.inside.held.items; left = c.self.inside.left - c.args.len } in
    let fits : AreBytes c.args.piece.now = λ i. omega (arith, c.type_inv.piece i) in
    let at : s.stage ≡ Body c.args.len c.args.more = ap (λ (x : ReaderState). x.stage) c.self.view_is ∙ c.requires.stage in
    let none : s.held ≡ [] = ap (λ (x : ReaderState). x.held) c.self.view_is ∙ c.requires.none in
    (change_read s t c.args.len c.args.more c.args.piece.now c.self.invariant fits at none c.requires.whole refl none c.in-Ok.ensures).1

pub returns-in-Ok : goal.returns-in-Ok
returns-in-Ok c =
    let s : ReaderState = record { stage = c.self.inside.stage; parts = parts_in c.self.inside.lists; held = c.self.inside.held.items; left = c.self.inside.left } in
    let t : ReaderState = record { stage = c.in-Ok.next; parts = parts_in c.next_change.new.lists; held = c.self.inside.held.items; left = c.self.inside.left - c.args.len } in
    let fits : AreBytes c.args.piece.now = λ i. omega (arith, c.type_inv.piece i) in
    let at : s.stage ≡ Body c.args.len c.args.more = ap (λ (x : ReaderState). x.stage) c.self.view_is ∙ c.requires.stage in
    let none : s.held ≡ [] = ap (λ (x : ReaderState). x.held) c.self.view_is ∙ c.requires.none in
    let taken : TakesPiece s c.args.piece.now c.args.len t = (change_read s t c.args.len c.args.more c.args.piece.now c.self.invariant fits at none c.requires.whole refl none c.in-Ok.ensures).0 in
    record {
      answers = subst (λ (x : ReaderState). TakesPiece x c.args.piece.now c.args.len t) c.self.view_is taken;
      field = subst (λ (x : ReaderState). EndsAtField x c.args.piece.now c.args.len) c.self.view_is (change_ends s c.args.len c.args.more c.args.piece.now at none);
    }

pub invariant_of-self-in_default : goal.invariant_of-self-in_default
invariant_of-self-in_default c =
    let s : ReaderState = record { stage = c.self.inside.stage; parts = parts_in c.self.inside.lists; held = c.self.inside.held.items; left = c.self.inside.left } in
    let t : ReaderState = record { stage = Failed c.in-Err.error; parts = parts_in c.next_change.new.lists; held = c.self.inside.held.items; left = c.self.inside.left - c.args.len } in
    let fits : AreBytes c.args.piece.now = λ i. omega (arith, c.type_inv.piece i) in
    let at : s.stage ≡ Body c.args.len c.args.more = ap (λ (x : ReaderState). x.stage) c.self.view_is ∙ c.requires.stage in
    let none : s.held ≡ [] = ap (λ (x : ReaderState). x.held) c.self.view_is ∙ c.requires.none in
    (change_failed s t c.args.len c.args.more c.args.piece.now c.in-Err.error (parts_in c.next_change.new.lists) c.self.invariant fits at none c.requires.whole refl refl none c.in_default.not-OutOfMemory c.in-Err.ensures).1

pub returns-in_default : goal.returns-in_default
returns-in_default c =
    let s : ReaderState = record { stage = c.self.inside.stage; parts = parts_in c.self.inside.lists; held = c.self.inside.held.items; left = c.self.inside.left } in
    let t : ReaderState = record { stage = Failed c.in-Err.error; parts = parts_in c.next_change.new.lists; held = c.self.inside.held.items; left = c.self.inside.left - c.args.len } in
    let fits : AreBytes c.args.piece.now = λ i. omega (arith, c.type_inv.piece i) in
    let at : s.stage ≡ Body c.args.len c.args.more = ap (λ (x : ReaderState). x.stage) c.self.view_is ∙ c.requires.stage in
    let none : s.held ≡ [] = ap (λ (x : ReaderState). x.held) c.self.view_is ∙ c.requires.none in
    let refused : RefusesPiece s c.args.piece.now c.in-Err.error t = (change_failed s t c.args.len c.args.more c.args.piece.now c.in-Err.error (parts_in c.next_change.new.lists) c.self.invariant fits at none c.requires.whole refl refl none c.in_default.not-OutOfMemory c.in-Err.ensures).0 in
    record {
      answers = answers_refusal c.args.self.now c.args.piece.now c.in-Err.error t c.in_default.not-OutOfMemory (subst (λ (x : ReaderState). RefusesPiece x c.args.piece.now c.in-Err.error t) c.self.view_is refused);
      field = tt;
    }
