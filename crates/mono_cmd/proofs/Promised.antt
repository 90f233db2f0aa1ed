-- All that is promised of a run follows from the ending that it comes to and the text that it writes.
use Rattle.std.proofs.Common.{subst}
use Rattle.mono_forms.specs.declared.status.Status.{Status}
use Rattle.mono_forms.specs.Runs.{Runs, Writes}
use Rattle.mono_cmd.specs.Promises.{RunView, Counting, Completing, Refusing, Solving, Generating, Narrowing, Bounding, Printing, Migrating, Asking, Teaming, Judging, JudgingWith, IsRun}
use Rattle.mono_forms.proofs.Stages.{ends_begun, ends_faults}
use Rattle.mono_cmd.proofs.Causes.{fault_counted, past_its_limit}
use Rattle.mono_forms.proofs.OutOfMemory.{memory_wanting}
use Rattle.mono_cmd.proofs.Needs.{no_read_fault, steady, complete}
use Rattle.mono_cmd.proofs.Refused.{its_refusal}
use Rattle.mono_cmd.proofs.Solves.{satisfiable, unsatisfiable, unknown, its_verdict}
use Rattle.mono_cmd.proofs.Summaries.{gen_satisfiable, gen_unsatisfiable, gen_unknown, summed}
use Rattle.mono_cmd.proofs.Judgments.{its_judgment, its_judgment_with}
use Rattle.mono_cmd.proofs.Sound.{refutes, models}
use Rattle.mono_cmd.proofs.SoundWith.{refutes_with, models_with}
use Rattle.mono_cmd.proofs.Narrows.{core_satisfiable, core_unsatisfiable, core_unknown, its_core}
use Rattle.mono_cmd.proofs.Migrations.{migrated}
use Rattle.mono_cmd.proofs.Prints.{printed}
use Rattle.mono_forms.proofs.Bests.{best_is_never_met, best_unknown, its_bound, asked}
use Rattle.mono_cmd.proofs.TeamRuns.{team_satisfiable, team_unsatisfiable, team_unknown, its_board}

module _ (run : RunView) (runs : Runs run.command run.old run.new run.status run.before run.now) where
  counting : Counting run
  counting = record {
    read_fault = fault_counted _ _ _ runs.ending run.status _ _ runs.ends runs.writes;
    no_read_fault = λ other no_fault. ends_faults _ _ _ runs.ending (no_read_fault runs.ending run.status _ _ runs.writes other no_fault) runs.ends;
    memory = λ is. (subst (λ (s : Status). Writes runs.ending s run.before run.now) is runs.writes).0;
    given_up = memory_wanting _ _ _ runs.ending run.status _ _ runs.ends runs.writes;
    begun = ends_begun _ _ _ runs.ending runs.ends;
    too_long = past_its_limit _ _ _ runs.ending run.status _ _ runs.ends runs.writes;
  }

  completing : Completing run
  completing = record {
    steady = steady _ _ _ runs.ending run.status _ _ runs.ends runs.writes;
    complete = complete _ _ _ runs.ending run.status _ _ runs.ends runs.writes;
  }

  refusing : Refusing run
  refusing = record { refusal = λ file text written named told is w. its_refusal _ _ _ _ _ _ runs file text named told is w.there written w.held w.wrote }

  solving : Solving run
  solving = record {
    satisfiable = satisfiable _ _ _ _ _ _ runs;
    unsatisfiable = unsatisfiable _ _ _ _ _ _ runs;
    unknown = unknown _ _ _ _ _ _ runs;
    verdict = λ p budget written solves w. its_verdict _ _ _ _ _ _ runs p budget solves w.there written w.held w.wrote;
  }

  generating : Generating run
  generating = record {
    satisfiable = gen_satisfiable _ _ _ _ _ _ runs;
    unsatisfiable = gen_unsatisfiable _ _ _ _ _ _ runs;
    unknown = gen_unknown _ _ _ _ _ _ runs;
    summary = λ p written solves w. summed _ _ _ _ _ _ runs p solves w.there written w.held w.wrote;
  }

  narrowing : Narrowing run
  narrowing = record {
    satisfiable = core_satisfiable _ _ _ _ _ _ runs;
    unsatisfiable = core_unsatisfiable _ _ _ _ _ _ runs;
    unknown = core_unknown _ _ _ _ _ _ runs;
    core = λ p lits written narrows w. its_core _ _ _ _ _ _ runs p lits narrows w.there written w.held w.wrote;
  }

  bounding : Bounding run
  bounding = record {
    bound = λ p n written bounds w. its_bound _ _ _ _ _ _ runs p n bounds w.there written w.held w.wrote;
    never_met = best_is_never_met _ _ _ _ _ _ runs;
    unknown = best_unknown _ _ _ _ _ _ runs;
  }

  printing : Printing run
  printing = record { stands = λ p written prints is w. printed _ _ _ _ _ _ runs p prints is w.there written w.held w.wrote }

  migrating : Migrating run
  migrating = record { migrated = λ p answer written v migrates is w. migrated _ _ _ _ _ _ runs p answer v migrates is w.there written w.held w.wrote }

  asking : Asking run
  asking = record { stands = λ p n b written asks is w. asked _ _ _ _ _ _ runs p n b asks is w.there written w.held w.wrote }

  teaming : Teaming run
  teaming = record {
    satisfiable = team_satisfiable _ _ _ _ _ _ runs;
    unsatisfiable = team_unsatisfiable _ _ _ _ _ _ runs;
    unknown = team_unknown _ _ _ _ _ _ runs;
    board = λ p workers rounds written plays w. its_board _ _ _ _ _ _ runs p workers rounds plays w.there written w.held w.wrote;
  }

  judging : Judging run
  judging = record {
    verdict = λ p answer written judges w. its_judgment _ _ _ _ _ _ runs p answer judges w.there written w.held w.wrote;
    refutes = refutes _ _ _ _ _ _ runs;
    models = models _ _ _ _ _ _ runs;
  }

  judging_with : JudgingWith run
  judging_with = record {
    verdict = λ p lits answer written judges w. its_judgment_with _ _ _ _ _ _ runs p lits answer judges w.there written w.held w.wrote;
    refutes = refutes_with _ _ _ _ _ _ runs;
    models = models_with _ _ _ _ _ _ runs;
  }

  pub is_run : IsRun run
  is_run = record {
    runs = runs;
    counts = counting;
    completes = completing;
    refuses = refusing;
    solves = solving;
    generates = generating;
    narrows = narrowing;
    bounds = bounding;
    prints = printing;
    migrates = migrating;
    asks = asking;
    teams = teaming;
    judges = judging;
    judges_with = judging_with;
  }
