mod Fitting
mod Ground
mod Line
mod Rules
