mod Bare
mod Cuts
mod Fitting
mod ForgottenStacks
mod LineLaws
mod PassLaws
mod Plain
