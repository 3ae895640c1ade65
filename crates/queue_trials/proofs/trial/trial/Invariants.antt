use Rattle.queue_trials.proofs.trial.trial.Given as goal

abbrev pub invariant-loop-step : goal.invariant-loop-step
invariant-loop-step g l = g.A.Queue.kept l.a × g.B.Queue.kept l.b
