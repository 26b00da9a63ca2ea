use Rattle.std.proofs.Common.{rules, ◌≡◌, ap, subst}
use Rattle.std.proofs.lemmas.Fn.{All-from_retain}
use Rattle.tp_list.specs.Members.{In}
use Rattle.tp_list.proofs.Members.{All-member}
use Rattle.tp_mirror.specs.declared.state.Name.{Name}
use Rattle.tp_mirror.specs.Mirroring.{MirrorView}
use Rattle.tp_mirroring.proofs.SeenLaws.{fewer_kept}
use Rattle.tp_mirroring.proofs.account.Account.drop_name.Goals as goal

pub returns : goal.returns
returns c =
    let all = All-from_retain _ (λ (m : Name). m ≡ c.args.name → ⊥) _ (λ x b g k. search rules) _ _ c.retain.ensures.filtered in
    record {
      others = ap (λ (v : MirrorView). record v { names = c.retain.new.self.items }) c.self.view_is;
      fewer = λ n h. subst (λ (v : MirrorView). In n v.names) c.self.view_is (fewer_kept c.retain.ensures.filtered n h);
      gone = λ n h is. All-member (λ (m : Name). m ≡ c.args.name → ⊥) c.retain.new.self.items all n h is;
    }
