use Rattle.std.proofs.Common.{◌+◌, ◌-◌, ◌∙◌, ◌≡◌, ◌≤◌, ◌^◌, arith, drop, false, refl, subst, sym, true}
use Rattle.text_filters.proofs.TreatedInputs.{HasTreated-all, HasTreated-closed, HasTreated-next}
use Rattle.text_filters.proofs.TreatedInputs.{HasTreated-none, texts}
use Rattle.text_filters.specs.{Messages.about_view, Program.all_well, Program.joined}
use Rattle.text_filters.specs.{Streams.faults_of, declared.program.Ending.Ending}
use Rattle.text_filters.proofs.program.treat_all.Goals as goal

few : (ending : Ending) → ending ≡ all_well → ending.replaced ≤ 2 ^ 64 - 1
few ending is = subst (λ e. e.replaced ≤ 2 ^ 64 - 1) (sym is) (omega arith)

most : (first rest ending : Ending) → ending ≡ joined first rest → ending.replaced ≤ 2 ^ 64 - 1
most first rest ending is = subst (λ e. e.replaced ≤ 2 ^ 64 - 1) (sym is) (omega arith)

pub loop-name-init : goal.loop-name-init
loop-name-init g c =
    let run = c.args.run.now in (
      few c.well-ending.result c.well-ending.ensures,
      HasTreated-none (faults_of g.R.ReadWhole.faults g.W.WriteWhole.faults g.M.WriteWhole.faults) (about_view run.about) (g.T.Filter.work run.filter.now) run.inputs.mode (texts run.inputs.names.now)
          (texts run.inputs.names.now)
          _ c.well-ending.result refl c.well-ending.ensures,
    )

pub loop-name-preserved : goal.loop-name-preserved
loop-name-preserved g c =
    let run = c.args.run.now in (
      most c.loop-name.ending c.report.result c.and-ending.result c.and-ending.ensures,
      HasTreated-next (faults_of g.R.ReadWhole.faults g.W.WriteWhole.faults g.M.WriteWhole.faults) (about_view run.about) (g.T.Filter.work run.filter.now) run.inputs.mode (texts run.inputs.names.now)
          run.inputs.names.now c.loop-name.name-index _ _ _ _ _ c.loop-name.ending
          c.report.result c.and-ending.result c.treat-treated.result false c.loop-name-test.true
          c.loop-name.invariant.1 (c.treat-treated.ensures.treated, c.treat-treated.ensures.possible) c.shown_name.ensures c.report.ensures
          c.and-ending.ensures (sym c.if-is_closed.false ∙ c.is_closed.ensures),
    )

pub returns-then-is_closed : goal.returns-then-is_closed
returns-then-is_closed g c =
    let run = c.args.run.now in
    let names = run.inputs.names.now in
    HasTreated-closed (faults_of g.R.ReadWhole.faults g.W.WriteWhole.faults g.M.WriteWhole.faults) (about_view run.about) (g.T.Filter.work run.filter.now) run.inputs.mode (texts names)
    (texts (drop (c.loop-name.name-index + 1) names)) _ _ c.and-ending.result
    (most c.loop-name.ending c.report.result c.and-ending.result c.and-ending.ensures)
    (HasTreated-next (faults_of g.R.ReadWhole.faults g.W.WriteWhole.faults g.M.WriteWhole.faults) (about_view run.about) (g.T.Filter.work run.filter.now) run.inputs.mode (texts names) names c.loop-name.name-index _
    _ _ _ _ c.loop-name.ending c.report.result c.and-ending.result
    c.treat-treated.result true c.loop-name-test.true c.loop-name.invariant.1
    (c.treat-treated.ensures.treated, c.treat-treated.ensures.possible) c.shown_name.ensures c.report.ensures c.and-ending.ensures
    (sym c.if-is_closed.true ∙ c.is_closed.ensures))

pub returns : goal.returns
returns g c =
    let run = c.args.run.now in
    HasTreated-all (faults_of g.R.ReadWhole.faults g.W.WriteWhole.faults g.M.WriteWhole.faults) (about_view run.about) (g.T.Filter.work run.filter.now) run.inputs.mode (texts run.inputs.names.now)
    run.inputs.names.now c.loop-name.name-index _ _ c.loop-name.ending
    c.loop-name-test.false c.loop-name.invariant.0 c.loop-name.invariant.1
