-- A path is stored as a node that lies nowhere.
use Rattle.std.specs.Coded.{Coded, code_by}
use Rattle.path_tree.specs.declared.node.Node.{Node}
use Rattle.path_tree.specs.contracts.node.Node as the_node
use Rattle.path_tree.specs.Path.{Path, path_of, node_of, path_node}

abbrev pub path_code : Coded Path
path_code = code_by Node the_node.the_row.coded node_of path_of path_node
