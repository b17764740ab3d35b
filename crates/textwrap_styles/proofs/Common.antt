-- The names of this crate and of others that most proofs cite. Declares nothing.
pub use Rattle.std.proofs.lemmas.List.{Elements.All-filter, Sums.fold-append}
pub use Rattle.std.specs.{Char.is_ascii_digit, Int.is_in_range, List.concat, Str.Parse.digits_value}
pub use Rattle.std.specs.Str.{chars}
pub use Rattle.textwrap_styles.specs.{OpenStyles.IsKeptAfter, Pen.Color, Pen.Pen, Pen.apply}
pub use Rattle.textwrap_styles.specs.Pen.{between, first_of, numbers_of, plain_pen}
pub use Rattle.textwrap_styles.specs.Penned.{Rendition, penned_lines, penned_text, plain_rendition}
pub use Rattle.textwrap_styles.specs.{Penned.rendition_of, Penned.with_sequence, Settings.fields}
pub use Rattle.textwrap_styles.specs.Settings.{in_effect, kind_of, latest, open_settings, settings}
pub use Rattle.textwrap_styles.specs.Styles.{carried_lines, closing, has_target, is_link, is_style}
pub use Rattle.textwrap_styles.specs.Styles.{link_end, open_link, open_styles, sequence_of}
pub use Rattle.textwrap_styles.specs.Styles.{sequences, settings_of, style_end, style_parameters}
pub use Rattle.textwrap_styles.specs.{Styles.written, declared.settings.Kind.Kind}
pub use Rattle.textwrap_styles.specs.declared.settings.Kind.TheVariants.{Reset}
pub use Rattle.textwrap_text.specs.Units.{IsWhole}
