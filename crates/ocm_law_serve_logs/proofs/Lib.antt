mod Fronts
mod Running
