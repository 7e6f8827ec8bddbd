use Rattle.std.proofs.Common.{map, ap, sym, ◌∙◌, subst}
use Rattle.hdc_graph.specs.Groups.{AreGroups}
use Rattle.hdc_groups.specs.Needs.{binding_needs}
use Rattle.hdc_resolved.specs.Mirror.{binding_of, synonym_of}
use Rattle.hdc_datas.specs.Datas.{datas_with}
use Rattle.hdc_datas.specs.Needs.{NoSynonymReachesItself}
use Rattle.hdc_written.specs.Mirror.{tops_of}
use Rattle.hdc_bindings.proofs.Congruence.{same_text}
use Rattle.hdc_top.proofs.tree.resolved_tree.Goals as goal

pub returns : goal.returns
returns c =
    let ps = tops_of c.args.prelude.now in
    let ts = tops_of c.args.program.now in
    let same = ap (map synonym_of) c.as_slice-2.ensures ∙ c.in_ok-synonyms.ensures in
    record {
      orders = c.in_ok-orders.orders;
      ordered = c.in_ok-orders.ensures;
      bindings = λ trees right. c.in_ok-bindings.ensures.decls ∙ same_text trees right ps ts c.in_ok-orders.orders;
      signatures = c.in_ok-bindings.ensures.signatures;
      groups = subst (λ z. AreGroups (binding_needs (map binding_of z)) c.in_ok-groups.groups) c.as_slice.ensures c.in_ok-groups.ensures;
      synonyms = c.in_ok-synonyms.ensures;
      datas = λ sound. c.in_ok-datas.ensures (subst NoSynonymReachesItself (sym same) sound) ∙ ap (λ z. datas_with z ps ts) same;
    }
