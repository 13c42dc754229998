use Rattle.std.proofs.Common.{rules}
use Rattle.htmlescape.proofs.Steps.{text_item}
use Rattle.htmlescape.proofs.state.after_text.Goals as goal

pub returns-else-c-eq38 : goal.returns-else-c-eq38
returns-else-c-eq38 c = text_item c.args.c c.if-c-eq38.false (search rules)
