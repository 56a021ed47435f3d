-- `lookup::edge_of` meets its contract: the edges that end below the value stand first.
use Rattle.std.proofs.Common.{ltb, rules}
use Rattle.std.proofs.lemmas.List.Sorted.{IsPartitionPoint-from_clause}
use Rattle.answer.specs.Fields.{fields}
use Rattle.lookup.proofs.Halving.{last_of, edges_parted, part_is_edge}
use Rattle.lookup.proofs.edge_of.Goals as goal

pub returns : goal.returns
returns c =
    let edges = c.edges_of.result.now in
    let parted = edges_parted fields c.args.diagram.now c.args.place c.args.value c.requires.sound_node edges c.edges_of.ensures.count c.edges_of.ensures.each in
    part_is_edge fields c.args.diagram.now c.args.place c.args.value c.requires.sound_node edges c.edges_of.ensures.count c.edges_of.ensures.each
    c.partition_point.result c.partition_point.ensures.bound
    (IsPartitionPoint-from_clause (λ e. ltb (last_of e) c.args.value) edges _ c.partition_point.ensures.partitioned parted (λ a r g h. search rules))
    c.requires.value_bound
