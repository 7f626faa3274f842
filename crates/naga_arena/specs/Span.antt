-- Spans: parts of the source text.
use Rattle.std.specs.Prelude.{◌==◌, ◌&&◌, Bool, Option, not}
use Rattle.naga_arena.specs.declared.span.Span.{Span}
use Rattle.naga_arena.specs.declared.span.WithSpan.{WithSpan}

-- a part of the source is known: the span is not the default one
abbrev pub is_defined : Span → Bool
is_defined s = not (s.start == 0 && s.end == 0)

-- the error, without its span
abbrev pub inner_of : {E : Type 0} → WithSpan E → E
inner_of e = e.inner

-- the part of the source that the error is about
abbrev pub span_of : {E : Type 0} → WithSpan E → Option Span
span_of e = e.span
