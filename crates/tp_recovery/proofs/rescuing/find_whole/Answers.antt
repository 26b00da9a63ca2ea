use Rattle.std.proofs.lemmas.Bool.{eqb-true}
use Rattle.std.proofs.Common.{◌≡◌, ◌+◌, ◌-◌, ◌∷◌, [], ◌++◌, ◌∙◌, List, length, drop, ap, refl, sym, subst, arith}
use Rattle.tp_layout.specs.declared.parts.ChangeParts.{ChangeParts}
use Rattle.tp_recovery.specs.declared.rescuing.WholeRecord.{WholeRecord}
use Rattle.tp_recovery.proofs.WholeLaws.{Finding, finding_first, finding_none, finding_record, found_all, record_shorter}
use Rattle.tp_recovery.proofs.rescuing.find_whole.Goals as goal

pub bytes-init : goal.bytes-init
bytes-init c = record { finding = finding_none c.args.total c.args.bytes.now c.new-records.result.items c.new-changes.result.items c.new-records.ensures.items c.new-changes.ensures.items; fits = c.requires }

pub bytes-smaller-in-Some : goal.bytes-smaller-in-Some
bytes-smaller-in-Some c =
    let found = rw c.in-Some.is at c.in_ok-change.ensures.found in
    record_shorter c.in-Some.change c.bytes.rest.now c.in-Some.next.now found.1

pub bytes-preserved-in-Some : goal.bytes-preserved-in-Some
bytes-preserved-in-Some c =
    let found = rw c.in-Some.is at c.in_ok-change.ensures.found in
    let shorter = record_shorter c.in-Some.change c.bytes.rest.now c.in-Some.next.now found.1 in
    record {
      finding = finding_record c.args.total c.args.bytes.now c.bytes.rest.now c.in-Some.next.now c.bytes.records.items c.push.new.self.items c.bytes.changes.items c.push-in-Some.new.self.items _
          c.in-Some.change found.0 found.1 refl refl c.hash.ensures.hash c.in_ok-push-in-Some.ensures.items c.in_ok-push-in-Some-2.ensures.items c.bytes.invariant.finding;
      fits = let before = c.bytes.invariant.fits in omega (arith, shorter, before);
    }

pub bytes-preserved : goal.bytes-preserved
bytes-preserved c =
    let none = rw c.in-None.is at c.in_ok-change.ensures.none in
    record {
      finding = subst (λ l. Finding c.args.total c.args.bytes.now l c.bytes.records.items c.bytes.changes.items) (sym c.split_at.ensures.back)
          (finding_first c.args.total c.args.bytes.now c.bytes.rest.now c.bytes.records.items c.bytes.changes.items (omega (arith, c.is_empty.ensures, c.bytes-test.true)) none c.bytes.invariant.finding);
      fits = omega arith;
    }

pub returns-clause-ok : goal.returns-clause-ok
returns-clause-ok c =
    let empty : length c.bytes.rest.now ≡ 0 = eqb-true (length c.bytes.rest.now) 0 (sym c.is_empty.ensures ∙ c.bytes-test.false) in
    found_all c.args.total c.args.bytes.now c.bytes.rest.now c.bytes.records.items c.bytes.changes.items (omega (arith, empty)) c.bytes.invariant.finding
