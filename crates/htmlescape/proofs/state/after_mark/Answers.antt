use Rattle.htmlescape.proofs.Steps.{mark_none}
use Rattle.htmlescape.proofs.state.after_mark.Goals as goal

pub returns-in-None : goal.returns-in-None
returns-in-None c = mark_none c.args.c c.in-None.ensures.value
