use Rattle.tp_message.proofs.Common.{◌-◌, ℕ, length, take, sym, ap, subst, ◌∙◌, refl, arith, AreBytes, parts_in, ReaderState, EndsAtField, Failed, RefusesPiece, TakesPiece}
use Rattle.tp_message.proofs.JudgeLaws.{fault_is}
use Rattle.tp_message.proofs.ReaderLaws.{answers_again, answers_refusal, part_ends, field_ends, part_read, field_read, field_failed, whole_ends}
use Rattle.tp_message.proofs.reading.MessageReader.take.Goals as goal

pub returns-in-Failed-clause-answers : goal.returns-in-Failed-clause-answers
returns-in-Failed-clause-answers c =
    answers_again c.args.self.now c.args.piece.now c.in-Failed.error (sym (ap (λ (x : ReaderState). x.stage) c.self.view_is) ∙ c.in-Failed.is)

pub invariant_of-self-then-piece-missing : goal.invariant_of-self-then-piece-missing
invariant_of-self-then-piece-missing c =
    let s : ReaderState = record { stage = c.self.inside.stage; parts = parts_in c.self.inside.lists; held = c.self.inside.held.items; left = c.self.inside.left } in
    let t : ReaderState = record { stage = c.self.inside.stage; parts = parts_in c.self.inside.lists; held = c.extend_from_slice.new.self.items; left = c.self.inside.left - length c.args.piece.now } in
    let fits : AreBytes c.args.piece.now = λ i. omega (arith, c.type_inv.piece i) in
    (part_read s t c.args.piece.now c.self.invariant fits (c.in_default.not-Whole, c.in_default.not-Failed)
    (omega (arith, c.if-piece-missing.true, c.field_len.ensures, c.len.ensures, c.self.inside.held.ok.0)) refl refl c.in_ok-extend_from_slice.ensures.items refl).1

pub returns-then-piece-missing : goal.returns-then-piece-missing
returns-then-piece-missing c =
    let s : ReaderState = record { stage = c.self.inside.stage; parts = parts_in c.self.inside.lists; held = c.self.inside.held.items; left = c.self.inside.left } in
    let t : ReaderState = record { stage = c.self.inside.stage; parts = parts_in c.self.inside.lists; held = c.extend_from_slice.new.self.items; left = c.self.inside.left - length c.args.piece.now } in
    let fits : AreBytes c.args.piece.now = λ i. omega (arith, c.type_inv.piece i) in
    let taken : TakesPiece s c.args.piece.now (length c.args.piece.now) t = (part_read s t c.args.piece.now c.self.invariant fits (c.in_default.not-Whole, c.in_default.not-Failed)
    (omega (arith, c.if-piece-missing.true, c.field_len.ensures, c.len.ensures, c.self.inside.held.ok.0)) refl refl c.in_ok-extend_from_slice.ensures.items refl).0 in
    record {
      answers = subst (λ (x : ReaderState). TakesPiece x c.args.piece.now (length c.args.piece.now) t) c.self.view_is taken;
      field = subst (λ (x : ReaderState). EndsAtField x c.args.piece.now (length c.args.piece.now)) c.self.view_is
          (part_ends s c.args.piece.now (omega (arith, c.if-piece-missing.true, c.field_len.ensures, c.len.ensures, c.self.inside.held.ok.0)));
      again = λ e f. absurd (c.in_default.not-Failed e (ap (λ (x : ReaderState). x.stage) c.self.view_is ∙ fault_is c.args.self.now.stage e f));
    }

pub invariant_of-self-in-Ok : goal.invariant_of-self-in-Ok
invariant_of-self-in-Ok c =
    let s : ReaderState = record { stage = c.self.inside.stage; parts = parts_in c.self.inside.lists; held = c.self.inside.held.items; left = c.self.inside.left } in
    let count : ℕ = c.field_len.result - c.len.result in
    let t : ReaderState = record { stage = c.in-Ok.next; parts = parts_in c.next_stage.new.lists; held = c.next_stage.new.held.items; left = c.self.inside.left - count } in
    let fits : AreBytes c.args.piece.now = λ i. omega (arith, c.type_inv.piece i) in
    (field_read s t c.args.piece.now (take count c.args.piece.now) count c.self.invariant fits (c.in_default.not-Whole, c.in_default.not-Failed)
    (omega (arith, c.field_len.ensures, c.len.ensures, c.self.inside.held.ok.0)) c.if-piece-missing.false refl refl c.in-Ok.ensures.ok c.in-Ok.ensures.moves).1

pub returns-in-Ok : goal.returns-in-Ok
returns-in-Ok c =
    let s : ReaderState = record { stage = c.self.inside.stage; parts = parts_in c.self.inside.lists; held = c.self.inside.held.items; left = c.self.inside.left } in
    let count : ℕ = c.field_len.result - c.len.result in
    let t : ReaderState = record { stage = c.in-Ok.next; parts = parts_in c.next_stage.new.lists; held = c.next_stage.new.held.items; left = c.self.inside.left - count } in
    let fits : AreBytes c.args.piece.now = λ i. omega (arith, c.type_inv.piece i) in
    let taken : TakesPiece s c.args.piece.now count t = (field_read s t c.args.piece.now (take count c.args.piece.now) count c.self.invariant fits (c.in_default.not-Whole, c.in_default.not-Failed)
    (omega (arith, c.field_len.ensures, c.len.ensures, c.self.inside.held.ok.0)) c.if-piece-missing.false refl refl c.in-Ok.ensures.ok c.in-Ok.ensures.moves).0 in
    record {
      answers = subst (λ (x : ReaderState). TakesPiece x c.args.piece.now count t) c.self.view_is taken;
      field = subst (λ (x : ReaderState). EndsAtField x c.args.piece.now count) c.self.view_is
          (field_ends s c.args.piece.now count c.self.invariant (c.in_default.not-Whole, c.in_default.not-Failed) (omega (arith, c.field_len.ensures, c.len.ensures, c.self.inside.held.ok.0)));
      again = λ e f. absurd (c.in_default.not-Failed e (ap (λ (x : ReaderState). x.stage) c.self.view_is ∙ fault_is c.args.self.now.stage e f));
    }

pub invariant_of-self-in_default-error : goal.invariant_of-self-in_default-error
invariant_of-self-in_default-error c =
    let s : ReaderState = record { stage = c.self.inside.stage; parts = parts_in c.self.inside.lists; held = c.self.inside.held.items; left = c.self.inside.left } in
    let count : ℕ = c.field_len.result - c.len.result in
    let t : ReaderState = record { stage = Failed c.in-Err.error; parts = parts_in c.next_stage.new.lists; held = c.next_stage.new.held.items; left = c.self.inside.left - count } in
    let fits : AreBytes c.args.piece.now = λ i. omega (arith, c.type_inv.piece i) in
    (field_failed s t c.args.piece.now (take count c.args.piece.now) count c.in-Err.error (parts_in c.next_stage.new.lists) c.self.invariant fits (c.in_default.not-Whole, c.in_default.not-Failed)
    (omega (arith, c.field_len.ensures, c.len.ensures, c.self.inside.held.ok.0)) c.if-piece-missing.false refl refl refl c.in-Err.ensures.few c.in_default-error.not-OutOfMemory c.in-Err.ensures.moves).1

pub returns-in_default-error : goal.returns-in_default-error
returns-in_default-error c =
    let s : ReaderState = record { stage = c.self.inside.stage; parts = parts_in c.self.inside.lists; held = c.self.inside.held.items; left = c.self.inside.left } in
    let count : ℕ = c.field_len.result - c.len.result in
    let t : ReaderState = record { stage = Failed c.in-Err.error; parts = parts_in c.next_stage.new.lists; held = c.next_stage.new.held.items; left = c.self.inside.left - count } in
    let fits : AreBytes c.args.piece.now = λ i. omega (arith, c.type_inv.piece i) in
    let refused : RefusesPiece s c.args.piece.now c.in-Err.error t = (field_failed s t c.args.piece.now (take count c.args.piece.now) count c.in-Err.error (parts_in c.next_stage.new.lists) c.self.invariant fits (c.in_default.not-Whole, c.in_default.not-Failed)
    (omega (arith, c.field_len.ensures, c.len.ensures, c.self.inside.held.ok.0)) c.if-piece-missing.false refl refl refl c.in-Err.ensures.few c.in_default-error.not-OutOfMemory c.in-Err.ensures.moves).0 in
    record {
      answers = answers_refusal c.args.self.now c.args.piece.now c.in-Err.error t c.in_default-error.not-OutOfMemory (subst (λ (x : ReaderState). RefusesPiece x c.args.piece.now c.in-Err.error t) c.self.view_is refused);
      field = tt;
      again = λ e f. absurd (c.in_default.not-Failed e (ap (λ (x : ReaderState). x.stage) c.self.view_is ∙ fault_is c.args.self.now.stage e f));
    }

pub returns-in-Whole-clause-field : goal.returns-in-Whole-clause-field
returns-in-Whole-clause-field c =
    let s : ReaderState = record { stage = c.self.inside.stage; parts = parts_in c.self.inside.lists; held = c.self.inside.held.items; left = c.self.inside.left } in
    subst (λ (x : ReaderState). EndsAtField x c.args.piece.now 0) c.self.view_is (whole_ends s c.args.piece.now c.self.invariant c.in-Whole.is)
