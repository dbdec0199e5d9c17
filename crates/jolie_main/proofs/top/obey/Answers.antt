-- Each command does what it promises with what was read.
use Rattle.jolie_main.proofs.CommandsDone.{obeys_check, obeys_explain, obeys_failed, obeys_print, obeys_run, obeys_serve}
use Rattle.jolie_main.proofs.top.obey.Goals as goal

pub returns-in-Check-clause-obeyed : goal.returns-in-Check-clause-obeyed
returns-in-Check-clause-obeyed g c =
    obeys_check _ c.args.command.now (g.F.Files.held c.args.world.now.files) c.as_str.result.now c.in-Ok.text.items c.as_str.ensures
    c.in-Ok.ensures.bytes (g.F.Files.told c.args.world.now.files)
    (g.F.Files.told c.read.new.self) c.in-Ok.ensures.asked c.in-Ok.ensures.cause.unfailed _ _ _ _ _ _ _ c.check_text.result c.in-Check.is
    c.deref.ensures.value c.check_text.ensures.shows c.check_text.ensures.empty

pub returns-in-Err-Failed-clause-obeyed : goal.returns-in-Err-Failed-clause-obeyed
returns-in-Err-Failed-clause-obeyed g c =
    obeys_failed _ c.args.command.now (g.F.Files.held c.args.world.now.files c.args.command.now.file) c.as_str.result.now
    (g.F.Files.told c.args.world.now.files)
    (g.F.Files.told c.read.new.self) _ _ _ _ _ _ c.file_failed.result c.as_str.ensures c.read.ensures.asked (c.read.ensures.cause.failed (cc))
    c.file_failed.ensures.status c.file_failed.ensures.told c.file_failed.ensures.empty

pub returns-in-Explain-clause-obeyed : goal.returns-in-Explain-clause-obeyed
returns-in-Explain-clause-obeyed g c =
    obeys_explain _ c.args.command.now (g.F.Files.held c.args.world.now.files) c.as_str.result.now c.in-Ok.text.items c.as_str.ensures
    c.in-Ok.ensures.bytes (g.F.Files.told c.args.world.now.files)
    (g.F.Files.told c.read.new.self) c.in-Ok.ensures.asked c.in-Ok.ensures.cause.unfailed _ _ _ _ _ _ _ c.explain_text.result c.in-Explain.is
    c.deref-in-Explain.ensures.value _ c.as_str-in-Explain.ensures c.explain_text.ensures.explains c.explain_text.ensures.empty

pub returns-in-Print-clause-obeyed : goal.returns-in-Print-clause-obeyed
returns-in-Print-clause-obeyed g c =
    obeys_print _ c.args.command.now (g.F.Files.held c.args.world.now.files) c.as_str.result.now c.in-Ok.text.items c.as_str.ensures
    c.in-Ok.ensures.bytes (g.F.Files.told c.args.world.now.files)
    (g.F.Files.told c.read.new.self) c.in-Ok.ensures.asked c.in-Ok.ensures.cause.unfailed _ _ _ _ _ _ _ c.print_text.result c.in-Print.is
    c.deref-in-Print.ensures.value c.print_text.ensures.shows c.print_text.ensures.empty

pub returns-in-Run-clause-obeyed : goal.returns-in-Run-clause-obeyed
returns-in-Run-clause-obeyed g c =
    obeys_run _ c.args.command.now (g.F.Files.held c.args.world.now.files) c.as_str.result.now c.in-Ok.text.items c.as_str.ensures
    c.in-Ok.ensures.bytes (g.F.Files.told c.args.world.now.files)
    (g.F.Files.told c.read.new.self) c.in-Ok.ensures.asked c.in-Ok.ensures.cause.unfailed _ _ _ _ _ _ _ _ _ _ c.run_text.result c.in-Run.is
    c.deref-in-Run.ensures.value c.run_text.ensures.runs

pub returns-clause-obeyed : goal.returns-clause-obeyed
returns-clause-obeyed g c =
    obeys_serve _ c.args.command.now (g.F.Files.held c.args.world.now.files) c.as_str.result.now c.in-Ok.text.items c.as_str.ensures
    c.in-Ok.ensures.bytes (g.F.Files.told c.args.world.now.files)
    (g.F.Files.told c.read.new.self) c.in-Ok.ensures.asked c.in-Ok.ensures.cause.unfailed _ _ _ _ _ _ _ _ _ _ c.serve_text.result c.in-Serve.is
    c.deref-in-Serve.ensures.value c.serve_text.ensures.serves
