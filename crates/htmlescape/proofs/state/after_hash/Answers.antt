use Rattle.htmlescape.proofs.Steps.{hash_none}
use Rattle.htmlescape.proofs.state.after_hash.Goals as goal

pub returns-in-None : goal.returns-in-None
returns-in-None c = hash_none c.args.c c.if-c-eq120.false c.in-None.ensures.value
