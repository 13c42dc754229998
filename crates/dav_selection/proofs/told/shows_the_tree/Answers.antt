use Rattle.dav_selection.proofs.OfTheTree.{tree_shown}
use Rattle.dav_selection.proofs.told.shows_the_tree.Goals as goal

pub returns : goal.returns
returns g c w told once q of free = tree_shown _ _ c.args._fs.now tt c.args._fs.now.ways w (λ path linked. c.local_stores_show_the_tree.ensures.opened w path told once linked) c.args._path.now q
    (g.met.D.Disk.world c.args._fs.now.disk w told) (λ links. c.local_stores_show_the_tree.ensures.listed w c.args._path.now told once links) of free
