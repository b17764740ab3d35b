use Rattle.textwrap_plain.proofs.balancing.balanced_width.Goals as goal
use Rattle.textwrap_layout.{proofs.Common.layout_view, specs.declared.layout.Layout.Layout}
use Rattle.textwrap_plain.proofs.Balance.{Room.room-from, Room.room-least, Search.balanced-none}
use Rattle.textwrap_plain.proofs.balancing.balanced_width.Goals.{then-indent-width-via-else-indent-width+then-widest-width}
use Rattle.textwrap_plain.proofs.balancing.balanced_width.Goals.{then-indent-width-via-then-indent-width}
use Rattle.textwrap_plain.specs.{Balance.wider_indent, Options.points_by}
use Rattle.textwrap_text.proofs.Common.{ap, arith, max, text_width, ℕ, ◌∙◌, ◌≡◌}

-- the wider of the indents' columns
indent-is : (layout : Layout) (initial later wider : ℕ)
    → initial ≡ text_width layout.initial_indent.now
    → later ≡ text_width layout.subsequent_indent.now → wider ≡ max initial later
    → wider ≡ wider_indent (layout_view layout)
indent-is layout initial later wider initial_is later_is is =
    is ∙ ap (λ n. max n later) initial_is ∙ ap (max (text_width layout.initial_indent.now)) later_is

pub returns-then-indent-width-clause-balanced : goal.returns-then-indent-width-clause-balanced
returns-then-indent-width-clause-balanced g c =
    let indent = indent-is c.args.layout c.display_width.result c.display_width-2.result
    c.wider-indent.result c.display_width.ensures.width c.display_width-2.ensures.width
    c.wider-indent.ensures in
    let settings = layout_view c.args.layout in
    let words = g.W.PrintableCuts.words c.args.parts.now.words in
    let splitter = points_by c.args.parts.now.splitter in
    balanced-none settings words splitter c.args.text.now (λ room.
    let least = room-least settings words splitter c.args.text.now settings.width room in
    elim c.then-indent-width.branch [
      | then-indent-width-via-then-indent-width w ↦ omega (arith, w.if-indent-width.true)
      | then-indent-width-via-else-indent-width+then-widest-width w ↦ omega (
        arith,
        c.in_ok-widest.ensures.widest,
        w.if-indent-width.false,
        w.if-widest-width.true,
      )
    ])

pub search-requires-clause-room : goal.search-requires-clause-room
search-requires-clause-room g c =
    let indent = indent-is c.args.layout c.display_width.result c.display_width-2.result
    c.wider-indent.result c.display_width.ensures.width c.display_width-2.ensures.width
    c.wider-indent.ensures in
    room-from (layout_view c.args.layout) (g.W.PrintableCuts.words c.args.parts.now.words)
    (points_by c.args.parts.now.splitter) c.args.text.now _
    (omega (arith, indent, c.in_ok-widest.ensures.widest))

pub search-requires-clause-least : goal.search-requires-clause-least
search-requires-clause-least g c = λ other room.
    let indent = indent-is c.args.layout c.display_width.result c.display_width-2.result
    c.wider-indent.result c.display_width.ensures.width c.display_width-2.ensures.width
    c.wider-indent.ensures in
    omega (
      arith,
      room-least (layout_view c.args.layout) (g.W.PrintableCuts.words c.args.parts.now.words)
          (points_by c.args.parts.now.splitter) c.args.text.now other room,
      c.in_ok-widest.ensures.widest,
    )
