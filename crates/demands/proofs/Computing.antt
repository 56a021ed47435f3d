-- What the cases compute with.
use Rattle.ruling.proofs.Computing.{ruling_computes}
use Rattle.diagram.proofs.Computing.{diagram_computes}
use Rattle.demands.specs.Tables.{ends, nodes_of, bytes_of, node, table, children_t, table_t, over_only_one, empty_root, root_over, permit_first, deny_first, rule_for1_in_group_for0, rule_root, two_faults, groups_of_rules, no_scout_attacks, expansion_t, attached_t, nested, on_levels, branching, of127_nodes, naval, seats_apart}

-- To unfold this is to unfold the tables.
unfoldable pub tables_compute : Unit {0}
unfolding ends nodes_of bytes_of node table children_t table_t over_only_one empty_root root_over permit_first deny_first rule_for1_in_group_for0 rule_root two_faults groups_of_rules no_scout_attacks expansion_t attached_t nested on_levels branching of127_nodes naval seats_apart
tables_compute = tt

-- the same, and what rules by them and through their diagrams
unfoldable pub cases_compute : Unit {0}
unfolding tables_compute ruling_computes diagram_computes
cases_compute = tt
