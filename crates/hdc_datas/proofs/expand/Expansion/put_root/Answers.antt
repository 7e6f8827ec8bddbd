use Rattle.std.proofs.Common.{◌++◌, ◌∙◌, map, subst}
use Rattle.std.proofs.lemmas.Result.{on_ok_weaker}
use Rattle.hdc_resolved.specs.Mirror.{type_tree_of, types}
use Rattle.hdc_value.specs.declared.ty.TypeNode.TheVariants as node
use Rattle.hdc_datas.specs.Closures.{in_environment, values_in, type_in, types_in, Goes, IsPut}
use Rattle.hdc_datas.specs.Expanded.{expanded}
use Rattle.hdc_datas.specs.Settled.{synonyms_of}
use Rattle.hdc_datas.proofs.Steps.{both_put, put_leaf, put_root, put_none, root_int, root_char, root_unknown, root_list, root_tuple, root_data, root_fun, root_synonym, root_variable}
use Rattle.hdc_datas.proofs.expand.Expansion.put_root.Goals as goal

pub returns-in-Int : goal.returns-in-Int
returns-in-Int c =
    let ss = synonyms_of c.args.meanings.now in
    on_ok_weaker c.push.result
    (λ one. put_leaf ss (type_in ss c.args.self.now c.args.environment (type_tree_of c.args.part.now)) c.args.nodes.now c.push.new.self node.Int c.args.self.now c.args.self.now one c.requires.well
    (root_int ss c.args.self.now c.args.environment c.args.part.now c.in-Int.is))
    c.push.ensures.ok

pub returns-in-Char : goal.returns-in-Char
returns-in-Char c =
    let ss = synonyms_of c.args.meanings.now in
    on_ok_weaker c.push-in-Char.result
    (λ one. put_leaf ss (type_in ss c.args.self.now c.args.environment (type_tree_of c.args.part.now)) c.args.nodes.now c.push-in-Char.new.self node.Char c.args.self.now c.args.self.now one c.requires.well
    (root_char ss c.args.self.now c.args.environment c.args.part.now c.in-Char.is))
    c.push-in-Char.ensures.ok

pub returns-in_ok-push-in-List : goal.returns-in_ok-push-in-List
returns-in_ok-push-in-List c =
    let ss = synonyms_of c.args.meanings.now in
    on_ok_weaker c.push-in-List-2.result
    (put_root ss (type_in ss c.args.self.now c.args.environment (type_tree_of c.args.part.now)) c.args.nodes.now c.push-in-List.new.self node.List c.args.self.now c.push-in-List-2.new.self c.in_ok-push-in-List.ensures.ok
    (λ rs. type_in rs c.args.self.now c.args.environment (type_tree_of c.get.result.now))
    (root_list ss c.args.self.now c.args.environment c.args.part.now c.in-List.element c.get.result.now c.in-List.is c.get.ensures))
    c.push-in-List-2.ensures

pub returns-in_ok-push-in-Tuple : goal.returns-in_ok-push-in-Tuple
returns-in_ok-push-in-Tuple c =
    let ss = synonyms_of c.args.meanings.now in
    on_ok_weaker c.push_all.result
    (put_root ss (type_in ss c.args.self.now c.args.environment (type_tree_of c.args.part.now)) c.args.nodes.now c.push-in-Tuple.new.self (node.Tuple c.in_ok-count-in-Tuple.count) c.args.self.now c.push_all.new.self c.in_ok-push-in-Tuple.ensures.ok
    (λ rs. types_in rs c.args.self.now c.args.environment (types (map type_tree_of c.as_slice.result.now)))
    (root_tuple ss c.args.self.now c.args.environment c.args.part.now c.in-Tuple.members c.as_slice.result.now c.in_ok-count-in-Tuple.count c.in-Tuple.is (c.in_ok-count-in-Tuple.ensures.what ∙ c.len.ensures) c.as_slice.ensures))
    c.push_all.ensures

pub returns-in_ok-push-in-Fun-2 : goal.returns-in_ok-push-in-Fun-2
returns-in_ok-push-in-Fun-2 c =
    let ss = synonyms_of c.args.meanings.now in
    on_ok_weaker c.push-in-Fun-3.result
    (λ puts. put_root ss (type_in ss c.args.self.now c.args.environment (type_tree_of c.args.part.now)) c.args.nodes.now c.push-in-Fun.new.self node.Fun c.args.self.now c.push-in-Fun-3.new.self c.in_ok-push-in-Fun.ensures.ok
    (λ rs. in_environment (values_in rs c.args.self.now) c.args.environment (expanded rs (type_tree_of c.get-in-Fun-2.result.now) ++ expanded rs (type_tree_of c.get-in-Fun.result.now)))
    (root_fun ss c.args.self.now c.args.environment c.args.part.now c.in-Fun.argument c.in-Fun.behind c.get-in-Fun-2.result.now c.get-in-Fun.result.now c.in-Fun.is c.get-in-Fun-2.ensures c.get-in-Fun.ensures)
    (both_put c.args.self.now c.push-in-Fun-2.new.self c.push-in-Fun-3.new.self c.args.environment (λ rs. expanded rs (type_tree_of c.get-in-Fun-2.result.now)) (λ rs. expanded rs (type_tree_of c.get-in-Fun.result.now)) c.in_ok-push-in-Fun-2.ensures puts))
    c.push-in-Fun-3.ensures

pub returns-in_ok-push-in-Data : goal.returns-in_ok-push-in-Data
returns-in_ok-push-in-Data c =
    let ss = synonyms_of c.args.meanings.now in
    on_ok_weaker c.push_all-in-Data.result
    (put_root ss (type_in ss c.args.self.now c.args.environment (type_tree_of c.args.part.now)) c.args.nodes.now c.push-in-Data.new.self (node.Data c.in-Data.number c.in_ok-count-in-Data.count) c.args.self.now c.push_all-in-Data.new.self c.in_ok-push-in-Data.ensures.ok
    (λ rs. types_in rs c.args.self.now c.args.environment (types (map type_tree_of c.as_slice-in-Data.result.now)))
    (root_data ss c.args.self.now c.args.environment c.args.part.now c.in-Data.number c.in-Data.arguments c.as_slice-in-Data.result.now c.in_ok-count-in-Data.count c.in-Data.is (c.in_ok-count-in-Data.ensures.what ∙ c.len-in-Data.ensures) c.as_slice-in-Data.ensures))
    c.push_all-in-Data.ensures

pub returns-in-Synonym : goal.returns-in-Synonym
returns-in-Synonym c =
    let ss = synonyms_of c.args.meanings.now in
    on_ok_weaker c.enter.result
    (λ goes. put_none ss (type_in ss c.args.self.now c.args.environment (type_tree_of c.args.part.now)) c.args.nodes.now c.args.self.now c.enter.new.self
    (subst (λ z. Goes ss z c.args.self.now c.enter.new.self) (root_synonym ss c.args.self.now c.args.environment c.args.part.now c.in-Synonym.number c.in-Synonym.arguments c.as_slice-in-Synonym.result.now c.in-Synonym.is c.as_slice-in-Synonym.ensures) goes))
    c.enter.ensures

pub returns-in-Var : goal.returns-in-Var
returns-in-Var c =
    let ss = synonyms_of c.args.meanings.now in
    on_ok_weaker c.put_variable.result
    (λ puts. subst (λ z. IsPut ss z c.args.nodes.now c.args.self.now c.put_variable.new.nodes c.put_variable.new.self) (root_variable ss c.args.self.now c.args.environment c.args.part.now c.in-Var.number c.in-Var.is) (puts ss))
    c.put_variable.ensures

pub returns-in-Unknown : goal.returns-in-Unknown
returns-in-Unknown c =
    let ss = synonyms_of c.args.meanings.now in
    on_ok_weaker c.push-in-Unknown.result
    (λ one. put_leaf ss (type_in ss c.args.self.now c.args.environment (type_tree_of c.args.part.now)) c.args.nodes.now c.push-in-Unknown.new.self (node.Tuple 0) c.args.self.now c.args.self.now one c.requires.well
    (root_unknown ss c.args.self.now c.args.environment c.args.part.now c.in-Unknown._arguments c.in-Unknown.is))
    c.push-in-Unknown.ensures.ok
