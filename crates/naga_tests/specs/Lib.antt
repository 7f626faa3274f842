-- To read first, after the definitions of naga_typing:
-- DeclaredTyping.declared_resolves: a typing that supports only what the laws require
pub mod DeclaredTyping
