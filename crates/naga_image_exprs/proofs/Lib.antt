mod ClampConditions
mod FirstConditions
mod KnownOperands
mod Places
mod Results
mod Texts
