pub mod StandingTrain
