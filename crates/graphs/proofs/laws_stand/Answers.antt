use Rattle.std.proofs.Common.{◌++◌}
use Rattle.graphs.specs.Links.{up_of}
use Rattle.graphs.specs.Cells.{graph}
use Rattle.graphs.proofs.Flats.{stands_decode}
use Rattle.graphs.proofs.Grow.{going_grow, going_push}
use Rattle.graphs.proofs.Lists.{logged_trans}
use Rattle.graphs.proofs.Wholes.{cells_grow, acyclic_grow, start_going, start_acyclic, owes_room, bare_fresh, whole_append, live_grow}
use Rattle.graphs.proofs.Spelt.{whole_terms}
use Rattle.graphs.proofs.CellLaws.{node_alive}
use Rattle.graphs.proofs.laws_stand.Goals as goal

pub returns : goal.returns
returns c = record {
  decoding = stands_decode;
  growing = λ kind cs more l E flag small whole going. going_grow (graph cs) (graph (cs ++ more)) (up_of l) (cells_grow cs more (up_of l) small whole (bare_fresh cs more (up_of l) small going.bare)) kind E flag going;
  growing_acyclic = λ kind cs more l E flag small whole going order. acyclic_grow cs more (up_of l) small whole (bare_fresh cs more (up_of l) small going.bare) going.tied order.0 order.1;
  adding = λ kind cs l E F flag going. going_push kind (graph cs) E F flag (up_of l) going;
  starting = start_going;
  starting_acyclic = start_acyclic;
  room = owes_room;
  following = logged_trans;
  spelling = whole_terms;
  joining = whole_append;
  living = node_alive;
  growing_live = live_grow;
}
