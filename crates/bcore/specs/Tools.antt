-- Promise: what is asked of the tools of a program, and the answer of a program without them.
use Rattle.std.specs.Prelude.{ℕ, List, codes}
use Rattle.blang.specs.Reports.{HasNotRun, Reported, RunEnds}
use Rattle.bcommand.specs.CommandLine.{Asked, ask, check_by, find, locate_code, question_of, search_shown, source_shown, verify}
use Rattle.bcore.specs.declared.tools.TheConstants.{LACKS_TOOL}
use Rattle.bcore.specs.declared.tools.ToolJob.{ToolJob}
use Rattle.bcore.specs.declared.tools.ToolJob.TheVariants as tool
use Rattle.bcore.specs.Shelves.{Holdings}

-- what a job of tools is of what can be asked for
abbrev pub tool_asked : ToolJob → Asked
tool_asked (tool.LocateCode file steps) = locate_code file.now steps
tool_asked (tool.Verify file) = verify file.now
tool_asked (tool.Ask source question) = ask (source_shown source) (question_of question)
tool_asked (tool.CheckBy source rules for_editor) = check_by (source_shown source) rules.now for_editor
tool_asked (tool.Find it) = find (search_shown it)

abbrev pub lacking_line : List ℕ
lacking_line =
    codes "b: the core alone compiles and runs; this command or option is a tool of the whole program\n"

-- Nothing was read or written but the line that there is no such tool.
abbrev pub LacksTool : Holdings → Asked → RunEnds → ℕ → Type 0
LacksTool shelf asked ends status =
    HasNotRun ends × Reported lacking_line LACKS_TOOL ends.line ends.line_after status
